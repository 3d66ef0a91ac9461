pub mod Members
pub mod Rooms
pub mod Started
