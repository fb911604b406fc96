pub mod Line
pub mod Call
