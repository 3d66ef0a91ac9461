pub mod Elf
pub mod Parsed
