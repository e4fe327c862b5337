pub mod Checked
pub mod Flags
pub mod Functions
pub mod Kinds
pub mod Scopes
pub mod Statements
pub mod Uses
pub mod steps
