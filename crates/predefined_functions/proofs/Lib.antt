pub mod EverySteps
pub mod Extending
pub mod LeastSteps
pub mod Steps
