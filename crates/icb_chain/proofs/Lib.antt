pub mod RingLemmas
pub mod KeptLemmas
pub mod ChainLemmas
