pub mod Offsets
pub mod Held
pub mod Ranges
pub mod Columns
pub mod Edited
