-- What follows from the definitions, for this crate and for those above.
pub mod Neighbour
pub mod Same
pub mod Statements
