pub mod Alone
pub mod Shrinks
pub mod Steps
pub mod Written
