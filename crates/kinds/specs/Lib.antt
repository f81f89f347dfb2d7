pub mod Algebra
pub mod Pieces
pub mod Targets
pub mod Counted
