pub mod Table
pub mod Reading
pub mod KeyedSites
pub mod Keyrings
