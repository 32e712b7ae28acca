pub mod Ring
pub mod RingCalls
pub mod Opening
pub mod Kept
pub mod KeptCode
pub mod ChainCalls
