-- What the contracts of private steps say.
pub mod Lengths
pub mod Sections
