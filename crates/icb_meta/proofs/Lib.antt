pub mod DistinctLemmas
pub mod JsonLemmas
pub mod ShownLemmas
pub mod KnownLemmas
pub mod SchemaLemmas
