pub mod Changes
pub mod Lines
pub mod Leaves
pub mod Forms
pub mod Stores
pub mod Parts
pub mod Worth
