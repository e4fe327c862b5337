pub mod GivenValues
pub mod Joining
pub mod Spellings
