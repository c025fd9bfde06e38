pub mod Value
pub mod Better
pub mod Tally
pub mod Examples
pub mod Theorems
