pub mod Numbers
pub mod Spelling
pub mod Reading
pub mod Writing
pub mod Cursor
pub mod Answers
pub mod Blocks
pub mod Laws
