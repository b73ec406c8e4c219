pub mod TrueNames
pub mod Terminals
mod Levels
mod Operands
pub mod Expressions
mod NeededBrackets
mod Lists
mod Hyps
mod Steps
pub mod Scripts
mod Acts
pub mod Machines
mod Texts
pub mod Told
pub mod ListsTold
pub mod ExpressionsTold
mod HypsTold
pub mod ScriptsTold
mod ActsTold
pub mod MachinesTold
mod TextsTold
mod Lexing
mod LexingRuns
mod LexingNumbers
mod LexingNames
mod LexingStrategies
mod Interning
mod SaidAgain
mod Readings
mod ReadRuns
pub mod PrintedTerminals
pub mod TerminalNames
pub mod TextNames
pub mod Rereads
