pub mod Outstanding
pub mod Translation
