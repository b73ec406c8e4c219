pub mod Tables
pub mod Trees
pub mod Held
pub mod Passing
pub mod Outward
pub mod Rooms
pub mod Largest
