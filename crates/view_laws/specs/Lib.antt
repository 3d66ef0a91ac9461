pub mod Counts
pub mod OfRuns
pub mod States
