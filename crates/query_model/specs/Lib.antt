pub mod Linked
pub mod Sources
pub mod Answers
pub mod Forth
pub mod Sinks
pub mod States
pub mod Names
