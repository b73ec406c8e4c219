mod Endings
mod Told
mod ProgramsTold
mod Said
mod TextsTold
mod TextsSaid
pub mod Rereads
