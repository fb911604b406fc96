pub mod StepLemmas
pub mod TryLemmas
pub mod AskLemmas
pub mod QuestionLemmas
pub mod ChangedLemmas
pub mod IdentifierLemmas
pub mod SampleLemmas
