pub mod Spelling
pub mod States
pub mod Reading
pub mod Laws
pub mod Pieces
