pub mod Handling
pub mod Pending
