pub mod Goes
pub mod Behind
pub mod Slices
pub mod Later
pub mod Equal
pub mod Points
