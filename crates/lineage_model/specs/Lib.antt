pub mod Flow
pub mod Tracking
pub mod Whole
pub mod Joined
pub mod Pairs
