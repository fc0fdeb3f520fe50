pub mod Layout
pub mod Range
pub mod InnerLayout
pub mod InnerRange
