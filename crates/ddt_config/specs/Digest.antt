pub mod Counted
pub mod Sealed
