pub mod Number
pub mod Write
pub mod Read
pub mod Points
pub mod ReadBack
