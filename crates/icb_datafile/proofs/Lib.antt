pub mod DatumLemmas
pub mod PositionLemmas
pub mod ChoosingLemmas
pub mod BlockLemmas
pub mod OverLemmas
pub mod OpeningLemmas
pub mod WholeLemmas
