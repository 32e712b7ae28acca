pub mod ReadBack
pub mod ContentLemmas
pub mod WrittenLemmas
pub mod InputLemmas
