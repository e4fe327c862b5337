-- What the contracts of private steps say.
pub mod Groups
pub mod Rounds
