-- What is proved, and what the answers of the functions cite.
pub mod Lists
pub mod Fitting
pub mod Keeping
pub mod Stepping
mod Resting
mod Agreeing
