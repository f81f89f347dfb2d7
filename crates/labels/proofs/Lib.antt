pub mod Places
pub mod Counts
pub mod Orders
pub mod Only
pub mod Sorts
