-- What follows from the definitions, for this crate and for those above.
pub mod Known
pub mod Live
pub mod Order
pub mod Size
pub mod Ends
