pub mod SentLemmas
pub mod TranslationLemmas
