pub mod Distinct
pub mod Words
