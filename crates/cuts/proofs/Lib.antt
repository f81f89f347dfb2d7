pub mod Cutting
pub mod Finding
