pub mod NamedLemmas
pub mod TouchLemmas
pub mod PointLemmas
pub mod OutputLemmas
pub mod RunLemmas
pub mod LegLemmas
pub mod StopLemmas
pub mod TakenLemmas
pub mod LoopLemmas
pub mod CountLemmas
pub mod QuietLemmas
mod Examples
mod EndLemmas
