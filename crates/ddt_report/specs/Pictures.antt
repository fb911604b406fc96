pub mod Differences
pub mod Escaped
pub mod Hops
