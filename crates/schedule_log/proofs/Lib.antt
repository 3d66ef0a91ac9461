pub mod Examples
pub mod OneWay
pub mod Fronts
pub mod Placed
