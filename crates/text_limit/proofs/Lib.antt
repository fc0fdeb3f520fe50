pub mod Limits
pub mod Characters
