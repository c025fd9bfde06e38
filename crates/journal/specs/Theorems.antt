-- The laws that the journal keeps for its callers.
pub mod Stores
