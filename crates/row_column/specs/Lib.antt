pub mod Frame
pub mod Column
pub mod InnerWalk
pub mod Depends
