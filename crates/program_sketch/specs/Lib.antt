pub mod Programs
pub mod Spelled
pub mod steps
