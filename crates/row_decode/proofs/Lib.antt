pub mod Walk
pub mod Marking
pub mod Decoding
pub mod Handing
pub mod Depends
