mod DiffersExamples
pub mod Compared
pub mod SameRecord
