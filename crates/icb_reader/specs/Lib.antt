pub mod Records
pub mod Answers
pub mod Less
pub mod Laws
