pub mod Conditions
pub mod Laws
pub mod Programs
pub mod Texts
pub mod Worked
