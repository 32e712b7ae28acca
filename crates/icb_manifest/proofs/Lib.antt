pub mod StatusLemmas
pub mod PairLemmas
pub mod ReadBack
pub mod WrittenLemmas
pub mod RefusedLemmas
pub mod InputLemmas
