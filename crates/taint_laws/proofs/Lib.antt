pub mod Boots
pub mod Told
pub mod Places
pub mod Rooms
pub mod Whole
pub mod Holding
pub mod Sound
pub mod States
pub mod Records
pub mod Fold
mod Worked
pub mod Unheard
pub mod Hears
