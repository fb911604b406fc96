pub mod AppendLemmas
pub mod AddressesLemmas
