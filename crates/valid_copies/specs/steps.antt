-- What the contracts of private steps say.
pub mod Further
pub mod Leaving
pub mod Tries
