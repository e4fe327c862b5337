pub mod BlockLaws
pub mod Blocks
pub mod Decoded
pub mod Pieces
pub mod steps
