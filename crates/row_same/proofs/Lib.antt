pub mod Stand
pub mod Alike
pub mod Compared
pub mod Comparing
pub mod Read
