pub mod Insertion
pub mod Lines
pub mod Places
pub mod Arranging
pub mod Writing
pub mod Printing
pub mod Decimals
