-- Places of a program, and what they are to the environments of the rules.
pub mod Hands
pub mod Clearing
pub mod Places
