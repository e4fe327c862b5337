pub mod Journals
pub mod Reports
pub mod Tallies
pub mod Worked
pub mod steps
