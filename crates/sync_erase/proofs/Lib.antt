mod Statements
mod Lines
