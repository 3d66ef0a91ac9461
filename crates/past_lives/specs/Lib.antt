pub mod Happened
pub mod Members
pub mod Laws
