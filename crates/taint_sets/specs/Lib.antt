pub mod Carried
pub mod Runs
pub mod Numbered
pub mod Sound
