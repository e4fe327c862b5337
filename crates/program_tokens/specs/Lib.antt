pub mod Pieces
pub mod Texts
pub mod Tokens
pub mod Words
pub mod steps
