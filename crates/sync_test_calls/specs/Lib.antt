-- What the programs that the tests run are.
pub mod Counting
