pub mod Forms
pub mod Shown
pub mod Heads
pub mod Ids
pub mod Answers
