pub mod Log
pub mod Refused
pub mod Stops
pub mod Stores
pub mod Causes
pub mod Pieces
pub mod Laws
