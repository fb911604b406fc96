pub mod RingLemmas
pub mod FillLemmas
pub mod KeyedLemmas
