pub mod Ordered
pub mod Print
pub mod InnerOrder
