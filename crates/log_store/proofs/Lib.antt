mod Examples
pub mod Adding
pub mod Closing
pub mod Fields
pub mod Logs
pub mod Moments
pub mod OnePlace
pub mod OneWay
pub mod ReadRecords
pub mod Reopening
pub mod Shut
pub mod Sizes
pub mod Spellings
pub mod Told
pub mod Walks
