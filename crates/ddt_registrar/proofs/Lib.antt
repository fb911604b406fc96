pub mod ListLemmas
pub mod SiteLemmas
pub mod JudgeLemmas
pub mod PreparedLemmas
pub mod RankLemmas
pub mod CarryLemmas
