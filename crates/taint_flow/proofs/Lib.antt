mod Bytes
mod Even
mod Flows
mod Grown
mod Operands
pub mod Moved
