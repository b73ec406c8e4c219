pub mod Sizes
pub mod Shown
pub mod Written
