pub mod Basics
pub mod Fronts
