-- What follows from the definitions, for this crate and for those above.
pub mod Addresses
pub mod CutPrefix
pub mod Eid
pub mod Head
pub mod Message
pub mod Statements
