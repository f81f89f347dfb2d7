pub mod Faults
pub mod Format
pub mod Numbers
pub mod Reading
pub mod Files
pub mod Writing
pub mod Text
