-- Entries under keys, and how they are kept.
pub mod Entries
pub mod Steps
