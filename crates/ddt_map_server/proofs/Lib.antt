pub mod TurnLemmas
pub mod KeysLemmas
