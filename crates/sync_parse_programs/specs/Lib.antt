pub mod Known
pub mod Operands
pub mod ProofStatements
pub mod Statements
pub mod Programs
pub mod Begun
