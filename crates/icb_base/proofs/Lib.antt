pub mod CallLemmas
pub mod LawLemmas
pub mod MemoryLemmas
pub mod MemoryProofs
pub mod PathLemmas
pub mod TransferLemmas
