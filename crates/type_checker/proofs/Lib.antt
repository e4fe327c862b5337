pub mod Binding
pub mod Faults
pub mod FlagsLaws
pub mod Growing
pub mod Rows
