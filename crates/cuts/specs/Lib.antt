pub mod Cuts
pub mod Part
