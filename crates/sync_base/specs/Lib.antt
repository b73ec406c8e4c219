pub mod Limits
pub mod Names
pub mod Rules
pub mod Outcome
pub mod Outside
pub mod InMemory
