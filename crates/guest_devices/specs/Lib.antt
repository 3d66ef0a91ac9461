pub mod Answers
pub mod Scripts
pub mod Seeded
pub mod SlotLaws
pub mod Slots
pub mod Told
