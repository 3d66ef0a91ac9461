pub mod Changes
pub mod Cuts
pub mod Listed
pub mod Queues
