pub mod Acts
pub mod Owned
pub mod Resolving
pub mod Scripts
pub mod Texts
