pub mod SharedDigits
pub mod SlotLemmas
pub mod NameLemmas
