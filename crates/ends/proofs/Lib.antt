pub mod Counting
pub mod Pushing
pub mod Popping
