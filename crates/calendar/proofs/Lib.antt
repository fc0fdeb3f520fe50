pub mod Years
pub mod Months
pub mod Dates
pub mod Since
pub mod Texts
pub mod Next
