pub mod Cells
pub mod Shows
pub mod Works
pub mod Contradictions
pub mod Extensions
pub mod Roots
pub mod Theorems
