pub mod Staying
mod Terms
mod Formulas
