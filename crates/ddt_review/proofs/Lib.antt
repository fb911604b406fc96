pub mod FaultsLemmas
pub mod SheetsLemmas
pub mod WarningsLemmas
