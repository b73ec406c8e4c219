pub mod Names
pub mod Sights
pub mod Seeing
pub mod Owing
pub mod OwingStatements
pub mod OwingLists
pub mod OwingVariables
mod Examples
