pub mod Bits
pub mod Fields
pub mod Opcode
pub mod Rows
pub mod Signed
pub mod Valid
pub mod Decoded
pub mod Encoded
