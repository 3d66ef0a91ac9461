pub mod Laws
pub mod Engines
pub mod States
pub mod Asked
pub mod Forth
pub mod Reached
pub mod LawsForth
pub mod Names
