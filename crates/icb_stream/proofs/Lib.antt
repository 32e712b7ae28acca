pub mod CutLemmas
pub mod PartLemmas
pub mod ContentLemmas
pub mod FrontLemmas
pub mod FrontLaws
pub mod AttachedLemmas
mod AskingLemmas
mod LoadLemmas
mod OpeningLemmas
mod ReadLemmas
mod SealedCutLemmas
mod SealingLemmas
mod WritingLemmas
