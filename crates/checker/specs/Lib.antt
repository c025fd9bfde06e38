pub mod Decoding
pub mod Desks
pub mod Frames
pub mod Walking
pub mod Moves
