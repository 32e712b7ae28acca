pub mod Steps
pub mod FoundLemmas
pub mod AgainLemmas
pub mod WrittenLemmas
