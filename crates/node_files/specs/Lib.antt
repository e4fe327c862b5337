pub mod Faults
pub mod KeptFiles
