pub mod Sets
pub mod Values
pub mod Tables
pub mod Keys
pub mod Snapshots
pub mod Laws
