pub mod Fronts
pub mod Verdicts
pub mod Desks
