pub mod Shards
pub mod Join
pub mod Widths
pub mod Views
pub mod Laws
