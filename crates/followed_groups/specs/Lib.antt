pub mod Follows
pub mod Following
pub mod Parts
pub mod Relations
