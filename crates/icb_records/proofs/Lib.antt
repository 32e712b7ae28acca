pub mod GatherLemmas
