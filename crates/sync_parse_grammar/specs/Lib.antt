pub mod Expressions
pub mod Scripts
pub mod Machines
pub mod Shallow
pub mod Texts
