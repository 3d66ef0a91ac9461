pub mod Lengths
pub mod Blocks
