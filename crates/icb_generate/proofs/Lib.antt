pub mod BatchLemmas
pub mod CountingLemmas
pub mod DayLemmas
pub mod RowLemmas
