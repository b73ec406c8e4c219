pub mod SpelledPrograms
pub mod Laws
pub mod Texts
pub mod Spelled
