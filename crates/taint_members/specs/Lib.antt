pub mod Access
pub mod Carried
pub mod Rows
