pub mod WriterLemmas
pub mod SinkLemmas
pub mod AnswerLemmas
pub mod EndLemmas
pub mod FloatLemmas
pub mod EffectLemmas
pub mod ZoneLemmas
