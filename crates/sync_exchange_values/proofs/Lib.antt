pub mod Narrowness
pub mod Evaluating
pub mod Building
pub mod Nodes
pub mod Formulas
