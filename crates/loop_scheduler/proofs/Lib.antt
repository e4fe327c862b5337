pub mod Choices
pub mod Held
pub mod Making
pub mod OfClusters
pub mod Ranges
pub mod ReadableTasks
