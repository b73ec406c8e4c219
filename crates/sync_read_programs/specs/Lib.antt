pub mod Scopes
pub mod Operands
pub mod Keeps
pub mod ProofStatements
pub mod Statements
pub mod Programs
pub mod Parts
