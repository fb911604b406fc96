pub mod AddressLemmas
pub mod DistinctLemmas
pub mod MovedLemmas
pub mod AcceptedLemmas
pub mod RowsLemmas
pub mod AgainLemmas
pub mod TableLemmas
