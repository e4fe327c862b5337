pub mod Faults
pub mod Lines
pub mod Schedules
pub mod Words
pub mod Worked
pub mod steps
