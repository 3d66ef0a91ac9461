pub mod Status
pub mod Opening
