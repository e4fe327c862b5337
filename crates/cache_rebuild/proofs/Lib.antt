pub mod Asks
pub mod Inputs
pub mod LeastBlocks
pub mod Steps
