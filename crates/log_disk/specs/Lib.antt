pub mod Crash
pub mod Image
pub mod InMemory
pub mod Laws
pub mod Past
pub mod Steps
