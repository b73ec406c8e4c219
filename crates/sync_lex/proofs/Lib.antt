pub mod Held
pub mod SignLen
pub mod Numbers
pub mod Endings
pub mod Digits
pub mod Within
pub mod Matches
pub mod Parting
pub mod Places
pub mod TerminalNumbers
pub mod Interned
mod Feeds
