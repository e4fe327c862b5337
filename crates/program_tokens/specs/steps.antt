-- What the contracts of readers and of private steps say.
pub mod Cursor
pub mod Front
pub mod Lexing
pub mod Parsers
