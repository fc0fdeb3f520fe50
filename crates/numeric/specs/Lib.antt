pub mod Decimal
pub mod Packed
pub mod InnerPacked
