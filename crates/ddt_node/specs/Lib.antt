pub mod Etrs
pub mod Decisions
pub mod Delegations
pub mod Places
pub mod Served
pub mod Server
pub mod Spelled
pub mod laws
