pub mod Ranges
pub mod Accepted
pub mod Examples
