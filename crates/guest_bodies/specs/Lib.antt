pub mod Follows
pub mod Fresh
pub mod Kept
pub mod Led
pub mod Running
pub mod Shown
pub mod Tables
pub mod Told
