pub mod Transcript
pub mod Answered
pub mod CutOff
pub mod Halts
pub mod Begun
pub mod Gone
pub mod Leaves
