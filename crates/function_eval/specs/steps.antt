-- What the contracts of private steps say.
pub mod Machine
pub mod Resolved
pub mod Resolving
pub mod Slots
