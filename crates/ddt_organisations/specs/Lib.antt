pub mod Tree
pub mod Charge
pub mod Laws
pub mod Meets
pub mod Found
pub mod Faults
pub mod Asked
pub mod Seam
