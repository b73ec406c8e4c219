mod Named
mod Machines
mod Grown
pub mod Accepting
pub mod TooLong
