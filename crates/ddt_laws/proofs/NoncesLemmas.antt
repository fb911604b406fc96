pub mod RequestLemmas
pub mod LiftLemmas
pub mod FairLemmas
pub mod OweLemmas
pub mod OnceLemmas
pub mod RunLemmas
