pub mod Pieces
pub mod Legs
pub mod LegLaws
