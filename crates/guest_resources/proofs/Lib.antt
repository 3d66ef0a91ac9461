pub mod Numbers
pub mod Queues
pub mod Sound
pub mod Changed
pub mod Opening
pub mod Rooms
