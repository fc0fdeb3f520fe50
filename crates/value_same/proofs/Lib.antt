pub mod Fields
pub mod Rows
pub mod Equivalence
pub mod Stored
pub mod Equal
pub mod Read
pub mod ReadBack
