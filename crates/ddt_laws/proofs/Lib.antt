pub mod RegistrationsLemmas
pub mod NoncesLemmas
pub mod SealsLemmas
pub mod ShapeLemmas
pub mod PositiveEndsLemmas
pub mod ReplacedEndsLemmas
