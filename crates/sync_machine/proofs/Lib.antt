pub mod Checks
pub mod Names
pub mod Named
pub mod Longer
pub mod Tests
