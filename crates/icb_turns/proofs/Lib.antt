pub mod AnswerLemmas
pub mod TurnLemmas
pub mod GrownLemmas
mod NumberLemmas
