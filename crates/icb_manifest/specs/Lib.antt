pub mod Maps
pub mod Files
pub mod Entries
pub mod Written
pub mod Laws
