mod Laws
mod Counts
pub mod Append
pub mod Characters
pub mod Forms
pub mod Points
mod Runs
mod Chunks
