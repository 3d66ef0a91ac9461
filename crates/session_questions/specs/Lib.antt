pub mod Verify
pub mod Asked
pub mod Generated
pub mod Counting
pub mod Texts
pub mod Short
pub mod OfRuns
pub mod Knows
