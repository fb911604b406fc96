pub mod Addresses
pub mod Moved
pub mod Records
pub mod Written
pub mod Table
