pub mod Joined
pub mod Seam
pub mod Walk
pub mod Laws
pub mod Verdict
