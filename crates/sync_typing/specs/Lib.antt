-- How programs are typed: what is known at a place, what a statement has to meet, and the first rule that is broken.
pub mod Symbols
pub mod Environments
pub mod Dues
pub mod Locals
pub mod Exchanging
pub mod Blocks
pub mod Keeps
pub mod Lists
pub mod Typing
pub mod Names
pub mod Laws
