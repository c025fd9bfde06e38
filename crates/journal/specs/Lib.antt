pub mod Undo
pub mod Lent
pub mod Theorems
