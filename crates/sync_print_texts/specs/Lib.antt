pub mod Whole
pub mod Rereading
