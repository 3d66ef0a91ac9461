pub mod Filled
pub mod Written
