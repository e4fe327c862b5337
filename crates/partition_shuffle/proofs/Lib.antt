pub mod Behind
pub mod ExactSections
pub mod Exits
pub mod Neighbours
pub mod Picking
pub mod Spilled
