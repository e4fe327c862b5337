-- What the contracts of private steps say.
pub mod Checks
pub mod Flags
