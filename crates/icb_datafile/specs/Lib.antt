pub mod Plans
pub mod Left
pub mod Answers
pub mod Whole
