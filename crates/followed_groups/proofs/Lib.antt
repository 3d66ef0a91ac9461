pub mod Follows
pub mod Added
pub mod Several
pub mod Caches
pub mod Parts
