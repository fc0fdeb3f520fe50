pub mod Read
pub mod InnerWalk
pub mod InnerMarks
pub mod Depends
