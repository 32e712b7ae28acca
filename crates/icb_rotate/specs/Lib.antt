pub mod Keys
pub mod Rotating
pub mod Drafting
pub mod Turning
pub mod Keeping
pub mod Whole
pub mod Complete
pub mod Laws
