pub mod Words
pub mod Questions
pub mod Grammar
pub mod Pieces
pub mod Texts
pub mod Printed
