pub mod Maps
pub mod Bags
pub mod Through
pub mod Leaving
pub mod States
pub mod Rearranged
