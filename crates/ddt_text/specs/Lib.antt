pub mod Grammar
pub mod FirstFault
pub mod Written
pub mod laws
