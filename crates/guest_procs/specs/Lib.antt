pub mod Answers
pub mod Shown
pub mod Sound
pub mod Status
