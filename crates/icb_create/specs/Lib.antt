pub mod Drawn
pub mod FirstVersion
