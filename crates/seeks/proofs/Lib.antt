pub mod Meeting
pub mod Spotting
pub mod Levels
pub mod Answering
