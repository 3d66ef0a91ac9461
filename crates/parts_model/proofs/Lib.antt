pub mod Examples
pub mod FilesExamples
pub mod ChannelExamples
pub mod PipesExamples
pub mod PortsExamples
pub mod ProcessesExamples
pub mod SignalsExamples
pub mod RepliesExamples
