pub mod Exprs
pub mod Scripts
pub mod Texts
pub mod Lexemes
pub mod ShowExprs
pub mod ShowScripts
pub mod ShowTexts
