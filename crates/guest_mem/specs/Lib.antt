pub mod Pages
pub mod View
