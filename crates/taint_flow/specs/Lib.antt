pub mod Even
pub mod Flow
pub mod Gathered
pub mod Names
pub mod Results
pub mod Silent
pub mod Moving
