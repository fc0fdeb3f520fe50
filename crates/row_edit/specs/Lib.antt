pub mod Edit
pub mod InnerOpened
pub mod Marks
