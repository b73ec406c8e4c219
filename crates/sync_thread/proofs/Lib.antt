mod Control
pub mod ControlEvents
mod CutLogs
mod Likeness
mod StepsAlone
mod Telling
