pub mod Texts
pub mod Compare
pub mod Order
pub mod Reading
pub mod Lengths
pub mod Lines
pub mod Rows
