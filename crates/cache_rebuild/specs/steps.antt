-- What the contracts of private steps say.
pub mod Asking
pub mod Blocks
pub mod Files
pub mod Needing
pub mod Walking
