-- What the contracts of private steps say.
pub mod DiskLogs
pub mod DiskLaws
