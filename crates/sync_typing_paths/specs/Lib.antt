-- Statements of lists, as what they put before the rest.
pub mod Statements
pub mod Deeds
