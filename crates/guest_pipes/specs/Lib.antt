pub mod Answers
pub mod Queue
pub mod Runs
pub mod Table
