pub mod Names
pub mod ProgramLaws
pub mod Programs
pub mod Rows
pub mod steps
