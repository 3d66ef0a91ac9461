mod ResultLemmas
pub mod FaultLemmas
pub mod StatusLemmas
pub mod SparedLemmas
pub mod OpenLemmas
pub mod ToldLemmas
