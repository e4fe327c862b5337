pub mod Spelled
pub mod steps
