-- The definitions that the contracts cite.
pub mod Field
pub mod Fips197
pub mod Columns
pub mod Stored
pub mod Key
pub mod KeyLaw
pub mod InverseCipher
pub mod Planes
pub mod Circuit
pub mod Laws
