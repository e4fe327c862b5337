-- What the contracts of private steps say.
pub mod Reading
pub mod SpelledLists
