pub mod Rows
pub mod Framed
pub mod InnerRows
