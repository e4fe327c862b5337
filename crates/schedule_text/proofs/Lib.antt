pub mod Events
pub mod FirstFaults
pub mod Heads
pub mod Limits
pub mod Numbers
pub mod Outcomes
pub mod Pieces
