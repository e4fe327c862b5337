pub mod Causes
pub mod Fates
pub mod States
pub mod Worked
