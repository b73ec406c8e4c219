pub mod Steps
pub mod Saying
pub mod Blocks
pub mod Endings
mod Examples
