pub mod TextLemmas
pub mod SealLemmas
