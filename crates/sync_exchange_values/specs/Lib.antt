-- Values of terms within a bound.
pub mod Fitting
pub mod Steps
pub mod Evaluations
