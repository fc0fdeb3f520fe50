pub mod Lengths
pub mod Within
pub mod Anywhere
pub mod Matched
pub mod Numbers
pub mod ReadBack
pub mod Points
