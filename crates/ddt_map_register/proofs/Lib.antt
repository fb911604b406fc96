pub mod AgainLemmas
pub mod TakesLemmas
pub mod NotifyLemmas
pub mod HmacLemmas
