mod Gains
pub mod Taking
mod WordLists
mod Answering
