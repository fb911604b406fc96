-- What follows from the definitions, for this crate and for those above.
pub mod Front
pub mod NumberMap
pub mod Order
pub mod Shape
pub mod Statements
