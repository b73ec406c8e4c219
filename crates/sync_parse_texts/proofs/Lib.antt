mod Leaves
pub mod Statements
pub mod ReadPrograms
pub mod Program
pub mod Whole
pub mod Answers
