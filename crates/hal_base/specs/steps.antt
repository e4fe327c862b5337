-- What the contracts of private steps say.
pub mod LineReading
pub mod Numbers
