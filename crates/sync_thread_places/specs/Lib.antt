-- What events of code are, by numbers in tables.
pub mod Places
pub mod Values
pub mod Runs
