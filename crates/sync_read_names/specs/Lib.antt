pub mod Scopes
pub mod Exprs
