pub mod TableLemmas
pub mod StateLemmas
pub mod HearLemmas
pub mod BoundLemmas
pub mod ReplyLemmas
mod StepLemmas
pub mod WideLemmas
