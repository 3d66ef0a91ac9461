pub mod Tables
pub mod Carried
pub mod Groups
pub mod Moves
pub mod Turns
pub mod Does
