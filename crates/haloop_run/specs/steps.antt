-- What the contracts of private steps say.
pub mod Checks
pub mod Clearing
pub mod Commands
pub mod Inputs
pub mod Outputs
pub mod Runs
pub mod Words
