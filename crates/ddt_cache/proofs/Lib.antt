pub mod LawLemmas
pub mod InsideLemmas
