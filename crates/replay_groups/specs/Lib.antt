pub mod Groups
pub mod Laws
pub mod Room
pub mod Sound
