pub mod Rlocs
pub mod Table
pub mod Reading
