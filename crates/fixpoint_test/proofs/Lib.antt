pub mod Deciding
pub mod Orders
