-- What the contracts of decoders and of private steps say.
pub mod Decoders
pub mod Exact
pub mod Values
