pub mod Goals
pub mod steps
