pub mod AgainLemmas
pub mod NumberLemmas
