pub mod Decisions
pub mod Follows
pub mod steps
