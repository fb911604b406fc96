pub mod Registrations
pub mod Nonces
pub mod Seals
pub mod PositiveEnds
pub mod ReplacedEnds
