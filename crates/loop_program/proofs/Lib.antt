mod ByNumber
mod CachedShapes
mod Collecting
mod KeptLimits
mod KeptRules
mod Texts
pub mod Chains
pub mod FlaggedShapes
pub mod KeptSchemas
pub mod Verdicts
