-- What follows from the definitions, for this crate and for those above.
pub mod Count
pub mod Range
pub mod Rising
pub mod RowOrder
