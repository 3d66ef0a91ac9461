pub mod Meanings
pub mod Assembled
pub mod Parted
pub mod Kept
pub mod Encodable
pub mod First
pub mod Checked
pub mod Sound
