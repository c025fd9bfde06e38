pub mod Claims
pub mod Workspaces
