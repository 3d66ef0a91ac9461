pub mod Carried
pub mod Pages
pub mod Rows
