-- The code of a program, and its text.
pub mod Erasing
pub mod ErasedForm
