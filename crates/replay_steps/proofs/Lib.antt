pub mod Begins
pub mod Ends
pub mod GoingOn
pub mod Happens
pub mod Lives
pub mod Plains
pub mod Wrongs
