-- What the contracts of tests say.
pub mod Shapes
