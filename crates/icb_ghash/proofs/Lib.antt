-- The lemmas of the proofs. `GhashLemmas` has those that crates above cite.
pub mod GhashLemmas
-- The lemmas that the proofs of this crate share.
pub mod FieldLemmas
pub mod HashLemmas
pub mod InverseLemmas
pub mod NibbleLemmas
pub mod PlaceLemmas
