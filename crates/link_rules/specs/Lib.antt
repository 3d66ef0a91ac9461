pub mod Listed
pub mod Masks
