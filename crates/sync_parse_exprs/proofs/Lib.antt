pub mod Rows
pub mod Inside
pub mod Chains
pub mod Lone
