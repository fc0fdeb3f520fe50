pub mod Bounds
pub mod Digits
pub mod Packing
pub mod Reading
pub mod RoundTrip
