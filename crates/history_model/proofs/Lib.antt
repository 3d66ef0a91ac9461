pub mod Examples
pub mod AloneExamples
