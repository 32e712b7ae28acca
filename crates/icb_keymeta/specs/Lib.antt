pub mod Decoded
pub mod Encoded
pub mod Calls
pub mod Laws
