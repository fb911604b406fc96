pub mod GroupConfig
pub mod Lists
pub mod Sorted
pub mod laws
