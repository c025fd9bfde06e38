-- Laws about the definitions of this crate, for the proofs of every layer.
pub mod Choices
pub mod Every
pub mod Scan
pub mod Literals
pub mod Clauses
pub mod Codes
pub mod Store
pub mod Facts
pub mod Held
pub mod Memory
pub mod Weights
pub mod Decoded
