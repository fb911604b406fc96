-- What follows from the definitions, for this crate and for those above.
pub mod Checksum
pub mod Ip
pub mod MapRequest
pub mod Request
pub mod Source
pub mod Sum
pub mod Udp
pub mod Writing
pub mod Written
pub mod Statements
