pub mod Tables
pub mod Changes
pub mod Changing
pub mod HeldShown
pub mod Keyed
pub mod Seating
pub mod TablesReceive
pub mod TablesReceiving
pub mod Groups
pub mod Placing
pub mod Turning
pub mod Joining
pub mod Sharing
pub mod Releasing
pub mod Happening
mod Carrying
