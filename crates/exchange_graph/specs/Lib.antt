pub mod Rows
pub mod Reach
pub mod Search
pub mod Links
pub mod Graphs
