pub mod Decodes
pub mod Stacks
pub mod Entering
pub mod Walks
pub mod Running
pub mod Turns
