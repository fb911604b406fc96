pub mod FoldersLemmas
pub mod RolloutLemmas
pub mod LoopbackLemmas
pub mod ExportLemmas
