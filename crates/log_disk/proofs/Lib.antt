pub mod CrashLemmas
mod Examples
pub mod Filling
pub mod PastLemmas
pub mod Patched
pub mod Calls
