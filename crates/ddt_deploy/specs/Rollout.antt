pub mod Between
pub mod Waits
pub mod Configurations
pub mod Files
