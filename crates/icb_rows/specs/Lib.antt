pub mod Order
pub mod Ranges
pub mod Bounds
pub mod Data
pub mod Records
pub mod Views
pub mod Rows
pub mod Laws
