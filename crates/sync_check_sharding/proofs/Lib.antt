mod Sharded
