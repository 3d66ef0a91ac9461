pub mod PiecesLemmas
pub mod PickLemmas
pub mod NamedLemmas
pub mod LegExamples
