pub mod Branch
pub mod Derivation
pub mod Writing
pub mod Claims
pub mod Bounds
pub mod Paths
