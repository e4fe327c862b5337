pub mod Laws
pub mod Lives
pub mod Outcomes
pub mod Worked
