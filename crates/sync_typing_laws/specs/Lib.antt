-- What typed programs are at rest, and the way from the rules on single statements to sound texts.
pub mod Rests
pub mod Ruling
pub mod Soundness
pub mod Standing
pub mod RowLaws
pub mod Laws
