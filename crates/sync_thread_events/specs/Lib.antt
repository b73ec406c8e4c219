-- What an event of code is, by parts.
pub mod Steps
pub mod Laws
pub mod Doing
pub mod Moves
pub mod Layout
pub mod Moments
pub mod Calls
