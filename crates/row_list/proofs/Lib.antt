pub mod Rows
pub mod Checking
