pub mod Folders
pub mod Rollout
pub mod Loopback
pub mod Export
