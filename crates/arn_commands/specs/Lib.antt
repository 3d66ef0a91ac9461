pub mod Lines
pub mod Parts
pub mod Commands
pub mod Sizes
pub mod Reader
pub mod Pieces
pub mod Nexts
pub mod Blocks
