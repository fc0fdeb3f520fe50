pub mod Flag
pub mod Runs
pub mod Worked
