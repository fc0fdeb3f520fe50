pub mod Occupation
pub mod Order
pub mod Line
pub mod InnerFields
pub mod InnerRead
