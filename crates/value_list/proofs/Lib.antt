pub mod LongKinds
pub mod Sizes
pub mod Checking
pub mod Records
pub mod Lists
pub mod Sole
