pub mod Bytes
pub mod Punctuation
pub mod Pieces
pub mod Lexemes
pub mod Spelling
pub mod Signs
pub mod Strategies
pub mod Terminals
