pub mod Kept
pub mod Flags
pub mod Nodes
