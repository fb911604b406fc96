-- What follows from the definitions, for this crate and for those above.
pub mod Address
pub mod Ascii
pub mod Byte
pub mod Number
pub mod Part
pub mod PrefixText
pub mod Readers
pub mod Written
pub mod XeidText
