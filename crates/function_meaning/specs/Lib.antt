pub mod Expressions
pub mod Functions
pub mod Meanings
pub mod NeverStops
pub mod Optional
pub mod Statements
pub mod steps
