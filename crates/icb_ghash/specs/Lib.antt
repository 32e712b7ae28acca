pub mod Ghash
pub mod Hashing
pub mod Laws
pub mod Sums
pub mod Tables
