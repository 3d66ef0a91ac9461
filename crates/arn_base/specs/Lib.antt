pub mod Device
pub mod Disk
pub mod Faults
pub mod InMemory
pub mod Window
