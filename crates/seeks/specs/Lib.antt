pub mod Spots
pub mod Sought
