pub mod Differs
pub mod Laws
pub mod Matching
