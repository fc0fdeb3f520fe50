pub mod Kinds
pub mod Ranges
pub mod InnerKinds
