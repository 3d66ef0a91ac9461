pub mod Characters
pub mod Names
pub mod Numbers
pub mod Statements
pub mod Seen
pub mod Pieces
pub mod Tables
