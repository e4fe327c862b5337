pub mod IndexLaws
pub mod Places
pub mod NamedLaws
