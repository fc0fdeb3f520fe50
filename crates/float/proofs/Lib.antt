pub mod Nan
pub mod ByBits
pub mod Equivalence
