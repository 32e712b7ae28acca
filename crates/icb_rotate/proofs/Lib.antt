pub mod NameLemmas
pub mod KeyLemmas
pub mod TableLemmas
pub mod VersionLemmas
pub mod StandLemmas
mod CallLemmas
mod DraftLemmas
mod StepLemmas
mod WholeLemmas
pub mod CompleteLemmas
