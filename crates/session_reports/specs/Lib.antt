pub mod Groups
pub mod Events
pub mod Processes
pub mod Refused
pub mod States
pub mod Files
pub mod Far
