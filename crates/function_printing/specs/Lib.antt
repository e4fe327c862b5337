pub mod Printing
pub mod steps
