pub mod Roots
pub mod Pushes
pub mod Joins
pub mod Parting
pub mod Meeting
