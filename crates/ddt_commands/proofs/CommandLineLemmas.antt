pub mod LineLemmas
pub mod CallLemmas
