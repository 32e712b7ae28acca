-- The lemmas of the proofs. `GcmLemmas` has those that crates above cite.
pub mod GcmLemmas
pub mod BytesLemmas
