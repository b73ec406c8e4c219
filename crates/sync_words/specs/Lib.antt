pub mod Entries
pub mod Views
pub mod Rule
pub mod Names
pub mod Steps
pub mod Agreeing
pub mod Last
