-- What the contracts of private steps say.
pub mod Inputs
pub mod Rounds
pub mod Sections
