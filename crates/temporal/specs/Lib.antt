pub mod Ranges
pub mod Time
