pub mod KindLemmas
pub mod UnionLemmas
pub mod LookLemmas
pub mod AskLemmas
pub mod OutLemmas
