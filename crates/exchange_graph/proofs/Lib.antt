pub mod Marks
pub mod Way
pub mod Listed
pub mod Edges
pub mod Few
pub mod Examples
