pub mod Files
pub mod Holders
pub mod InputLoops
pub mod Keeps
pub mod PartLoops
pub mod StruckTries
pub mod Tries
