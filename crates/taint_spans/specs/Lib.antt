pub mod Spans
pub mod Numbered
pub mod Carried
pub mod Sound
