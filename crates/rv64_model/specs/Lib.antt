pub mod Registers
pub mod Values
pub mod Operands
pub mod Instruction
pub mod Carries
