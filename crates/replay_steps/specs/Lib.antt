pub mod Notices
pub mod Standing
pub mod Calls
pub mod Plain
