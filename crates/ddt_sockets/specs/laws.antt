-- What follows from the definitions, for this crate and for those above.
pub mod Tell
pub mod Turn
