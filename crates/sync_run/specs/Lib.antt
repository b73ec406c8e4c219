-- What a run tells.
pub mod Turns
pub mod Reports
