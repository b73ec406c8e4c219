pub mod Narrow
pub mod Totals
