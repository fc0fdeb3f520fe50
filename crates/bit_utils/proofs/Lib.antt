pub mod Packing
pub mod Comparing
pub mod Unpacking
