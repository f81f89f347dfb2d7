pub mod Faults
pub mod Labels
