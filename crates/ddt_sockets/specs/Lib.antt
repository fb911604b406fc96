pub mod Calls
pub mod Addresses
pub mod Turns
pub mod laws
pub mod Nonces
