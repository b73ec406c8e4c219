-- What symbols stand for, and nodes with other children.
pub mod Sayings
pub mod Nodes
