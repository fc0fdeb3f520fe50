pub mod InnerHeld
pub mod InnerOffsets
pub mod InnerStores
