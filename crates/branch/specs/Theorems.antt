-- The laws that the branch keeps for its callers.
pub mod Stored
pub mod Extending
