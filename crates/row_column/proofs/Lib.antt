pub mod Walk
pub mod Framing
pub mod Reach
pub mod Depends
