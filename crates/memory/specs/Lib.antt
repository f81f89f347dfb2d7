pub mod Faults
pub mod Rows
pub mod State
pub mod Versions
