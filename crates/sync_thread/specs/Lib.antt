-- Programs of threads: how lists of statements run, what programs and their code are, and what code does.
pub mod Control
pub mod Programs
pub mod Symbols
pub mod Arrays
pub mod Code
pub mod Views
pub mod Scripts
pub mod Resting
pub mod Reports
pub mod Logs
pub mod Alone
pub mod Tables
