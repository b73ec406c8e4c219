pub mod Texts
pub mod Checking
pub mod Listing
