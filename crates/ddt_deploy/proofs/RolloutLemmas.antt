pub mod ShapeLemmas
pub mod ZoneLemmas
pub mod WaitLemmas
pub mod ConfigurationLemmas
pub mod FileLemmas
