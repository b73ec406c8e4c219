pub mod Maps
pub mod Lookups
pub mod Narrowing
pub mod Ordered
