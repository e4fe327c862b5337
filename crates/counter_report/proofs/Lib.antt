pub mod Counting
pub mod Distinct
pub mod Sayings
pub mod Words
