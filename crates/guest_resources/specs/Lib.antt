pub mod Opened
pub mod Queue
pub mod Resources
pub mod Rooms
