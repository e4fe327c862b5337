pub mod Vectors
pub mod Worked
