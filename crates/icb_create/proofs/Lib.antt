pub mod DrawnLemmas
pub mod OpensLemmas
