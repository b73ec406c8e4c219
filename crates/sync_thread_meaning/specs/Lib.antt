-- What programs mean: who has which token, what statements do to them, and what it is to be sound.
pub mod MachineWithProgram
pub mod Shares
pub mod Exchanges
pub mod Words
pub mod Meaning
pub mod Moments
pub mod Sound
pub mod Erased
pub mod Laws
