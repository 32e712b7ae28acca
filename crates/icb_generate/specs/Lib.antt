pub mod Rows
pub mod Batches
pub mod Laws
pub mod Counting
pub mod CountingLaws
pub mod Days
