pub mod Rows
pub mod InnerWalk
pub mod InnerStored
