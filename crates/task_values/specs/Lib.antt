pub mod Attempts
pub mod Reads
pub mod Schemas
pub mod Sections
pub mod Tests
pub mod Worlds
