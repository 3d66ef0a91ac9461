pub mod Numbered
pub mod Few
pub mod Shown
