-- Laws about the definitions of this crate, for the layers above.
pub mod Value
