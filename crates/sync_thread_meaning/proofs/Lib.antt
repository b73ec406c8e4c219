mod ErasedLists
pub mod ErasedMoments
pub mod FinalHands
pub mod Traces
mod Counting
mod Staying
mod Examples
mod CountToTwo
mod Lock
mod Nested
mod GivenAway
mod WideNumber
