pub mod Rows
pub mod Runs
pub mod Grouping
pub mod Joining
