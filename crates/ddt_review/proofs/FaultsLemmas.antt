pub mod RowLemmas
pub mod FirstLemmas
pub mod MatchLemmas
pub mod AboveLemmas
pub mod ShareLemmas
pub mod ToldLemmas
pub mod ListLemmas
