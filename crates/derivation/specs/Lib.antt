pub mod Bytes
pub mod Check
pub mod Write
pub mod Examples
pub mod Demands
