pub mod Answers
pub mod Probing
pub mod Committing
pub mod Naming
pub mod Numbers
pub mod Turns
pub mod Laws
