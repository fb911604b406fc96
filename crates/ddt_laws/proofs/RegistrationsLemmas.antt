pub mod CompileLemmas
pub mod AcceptLemmas
pub mod ForceLemmas
pub mod JudgedLemmas
pub mod StepLemmas
pub mod ReloadLemmas
