pub mod Registering
pub mod Counted
pub mod Rates
pub mod Turns
pub mod Keys
