pub mod Ends
pub mod Last
pub mod Lowest
pub mod Numbers
pub mod Tables
pub mod Waits
pub mod Live
