-- What an exchange of tokens does, and that it is a step of the whole.
pub mod Exchange
pub mod Projection
pub mod Outcomes
pub mod Works
pub mod Splitting
pub mod Laws
pub mod Moves
pub mod Runs
pub mod MoveLaws
pub mod Calls
