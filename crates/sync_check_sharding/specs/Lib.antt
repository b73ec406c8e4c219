pub mod Sharded
