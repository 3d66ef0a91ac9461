pub mod Laying
pub mod Enough
pub mod Happened
pub mod Runs
pub mod Counted
pub mod Named
