pub mod Spills
pub mod steps
