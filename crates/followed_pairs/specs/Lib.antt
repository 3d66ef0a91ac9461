pub mod Locals
pub mod Items
pub mod Leads
pub mod Demands
pub mod States
pub mod Names
pub mod Copies
pub mod Sinks
