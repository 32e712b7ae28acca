pub mod Forms
pub mod OptionTables
pub mod Options
pub mod Places
pub mod Steps
pub mod Words
