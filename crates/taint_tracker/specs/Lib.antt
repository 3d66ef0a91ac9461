pub mod Items
pub mod Numbered
pub mod Followed
