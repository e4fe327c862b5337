pub mod PrintingBlanks
pub mod PrintingLaws
pub mod PrintingLines
pub mod PrintingPlaces
