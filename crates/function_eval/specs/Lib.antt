pub mod Evaluated
pub mod steps
