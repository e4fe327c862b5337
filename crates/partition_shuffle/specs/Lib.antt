pub mod SpillLaws
pub mod SpillTexts
pub mod steps
