pub mod MapLaws
pub mod Truths
pub mod Drafting
pub mod Origins
pub mod Names
pub mod Saying
pub mod Stacking
pub mod Trailing
