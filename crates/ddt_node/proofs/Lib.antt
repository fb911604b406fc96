pub mod AnswerLemmas
pub mod EtrLemmas
pub mod BitLemmas
pub mod DelegationLemmas
pub mod PlaceLemmas
pub mod ReplyLemmas
pub mod SpelledLemmas
