pub mod Ranges
pub mod EtrLemmas
pub mod RegisterLemmas
pub mod InForce
pub mod Statements
pub mod Steps
