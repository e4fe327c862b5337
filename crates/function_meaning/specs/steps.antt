-- The proofs of the laws of what functions mean, which an implementation names.
pub mod KeyLaws
pub mod MeaningLaws
pub mod RoundLaws
