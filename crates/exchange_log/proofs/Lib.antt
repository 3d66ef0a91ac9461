pub mod Answering
pub mod Examples
pub mod OneWay
pub mod Options
pub mod Reading
