pub mod ReadBack
pub mod Nulls
pub mod Text
pub mod Same
pub mod SameRead
pub mod Sorts
pub mod Layouts
pub mod Examples
