pub mod Program
pub mod Typed
pub mod Sums
