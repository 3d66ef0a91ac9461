pub mod Events
pub mod Moments
pub mod Groups
pub mod Exchanges
pub mod Names
pub mod Unplugged
pub mod Broken
pub mod Alone
