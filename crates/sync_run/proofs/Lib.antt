mod Leading
mod Rounds
mod Whole
mod Told
