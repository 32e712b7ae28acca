pub mod Refusing
pub mod FilledLemmas
pub mod Passing
pub mod FrontLemmas
pub mod OpeningLemmas
pub mod StepLemmas
pub mod LessKnown
