pub mod Bytes
pub mod Starting
pub mod Beginning
