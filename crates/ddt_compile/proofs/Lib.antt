pub mod ShapedLemmas
pub mod ListLemmas
pub mod HonestLemmas
pub mod RoomLemmas
pub mod SortedLemmas
