pub mod Apart
pub mod Entries
pub mod NothingLoaded
pub mod NothingStored
pub mod Whole
pub mod Stepping
