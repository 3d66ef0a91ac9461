pub mod Cuts
pub mod Digits
pub mod ListOfNumbers
pub mod RegisterTable
pub mod Shapes
pub mod Readings
pub mod Examples
