pub mod Bare
pub mod Computed
pub mod PlanSteps
