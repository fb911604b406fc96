pub mod NumberLemmas
pub mod FaultLemmas
pub mod PlaceLemmas
pub mod RoomLemmas
pub mod StandsLemmas
pub mod WriteLemmas
pub mod OrderLemmas
pub mod DigestLemmas
