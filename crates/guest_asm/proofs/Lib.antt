pub mod Parting
pub mod Naming
mod Itemizing
mod Listing
pub mod Sizes
pub mod Pushing
pub mod Coding
pub mod Firsts
pub mod Placing
pub mod FaultLists
pub mod Wording
pub mod Imaging
pub mod Soundness
pub mod Lengths
pub mod Accepting
pub mod Examples
