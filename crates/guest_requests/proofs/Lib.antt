pub mod Rows
pub mod Ready
pub mod Children
pub mod Piped
pub mod Seen
