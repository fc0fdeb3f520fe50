pub mod Present
mod Counts
