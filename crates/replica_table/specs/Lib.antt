pub mod Copies
pub mod FileLaws
pub mod FileOrder
pub mod Listing
pub mod Order
pub mod Sets
pub mod steps
