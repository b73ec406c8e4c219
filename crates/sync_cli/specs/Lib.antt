pub mod Lines
pub mod Commands
pub mod Statuses
pub mod Streams
pub mod Reading
pub mod Answers
pub mod Serving
