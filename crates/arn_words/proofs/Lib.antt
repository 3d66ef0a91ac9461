pub mod EntryLemmas
pub mod ProgramLemmas
pub mod ReadLemmas
