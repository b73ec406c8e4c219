pub mod Faults
pub mod Terminals
pub mod Expressions
