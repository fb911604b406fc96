-- What follows from the definitions, for this crate and for those above.
pub mod Below
pub mod Entry
pub mod Key
pub mod Map
pub mod Match
pub mod Pass
