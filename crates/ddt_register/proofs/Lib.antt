pub mod RowLemmas
pub mod FieldLemmas
pub mod LocatorLemmas
pub mod LeftLemmas
pub mod SpelledLemmas
pub mod MidwayLemmas
