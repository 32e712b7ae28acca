-- The lemmas of the proofs. `Bytes` has those that crates above cite.
pub mod Bytes
pub mod FieldLemmas
pub mod InverseLemmas
pub mod RemainderLemmas
pub mod ColumnLemmas
pub mod SboxLemmas
pub mod ScheduleLemmas
pub mod CipherLemmas
pub mod StateLemmas
pub mod InverseCipherLemmas
pub mod PlaneLemmas
pub mod CircuitLemmas
pub mod RoundPlanes
pub mod RowLemmas
pub mod KeyRows
pub mod BlockPlanes
