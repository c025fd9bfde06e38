-- Laws about what a text is read as, for the proofs of the layers above.
pub mod Limits
