pub mod Effects
pub mod Carrying
pub mod Printing
pub mod Standing
pub mod Outside
pub mod Halts
pub mod Laws
pub mod Quiet
