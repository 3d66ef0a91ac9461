pub mod Fetched
pub mod Outcome
pub mod Prospect
pub mod Remembered
