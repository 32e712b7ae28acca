pub mod Block
pub mod Keys
pub mod Laws
