pub mod ConditionLemmas
pub mod Lasting
pub mod Choices
pub mod Otherwise
