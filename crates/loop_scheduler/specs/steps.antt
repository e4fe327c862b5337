-- What the contracts of private steps say.
pub mod Choosing
pub mod Reading
