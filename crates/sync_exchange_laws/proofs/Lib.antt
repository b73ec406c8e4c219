pub mod Cells
pub mod Permitting
pub mod Ways
pub mod Writing
pub mod Onlys
pub mod Testing
pub mod Widening
pub mod Joining
pub mod Bringing
pub mod Slotting
pub mod Stopping
pub mod Progressing
pub mod Succeeding
pub mod Handling
pub mod Lasting
pub mod Variables
pub mod Ending
pub mod Along
pub mod Guarding
pub mod Returning
pub mod Substituting
pub mod TermsSucceeding
pub mod Starting
pub mod Agreeing
pub mod AgreeingNames
pub mod WholeTerms
mod Examples
pub mod Meeting
pub mod Storage
mod Dealing
mod Withdrawal
