pub mod Limit
pub mod Characters
pub mod InnerCheck
