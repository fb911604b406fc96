pub mod SaidLemmas
pub mod SinceLemmas
pub mod GoLemmas
pub mod RunLemmas
