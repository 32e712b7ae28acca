pub mod BlockLemmas
mod OpenerLemmas
mod WrappingLemmas
