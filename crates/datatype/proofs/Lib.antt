pub mod KindTable
pub mod Records
pub mod Walk
pub mod Accept
pub mod Again
pub mod Plain
