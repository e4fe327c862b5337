pub mod Fitting
pub mod Streams
