pub mod Cuts
pub mod ExactDecoders
pub mod Fronts
pub mod OneList
pub mod Sizes
