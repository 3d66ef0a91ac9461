pub mod Happened
pub mod Laying
pub mod Changes
pub mod Steps
pub mod Versions
