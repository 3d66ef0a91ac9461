pub mod Bounds
pub mod BySlices
pub mod Foundings
pub mod Lives
pub mod Parts
pub mod Replays
