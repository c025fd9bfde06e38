pub mod Literals
pub mod Tallies
pub mod Values
