pub mod ToldExamples
pub mod ActsExamples
pub mod TransfersExamples
pub mod ChildExamples
