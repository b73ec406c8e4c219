pub mod Safety
pub mod Widths
pub mod Deals
