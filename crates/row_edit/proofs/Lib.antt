pub mod Placing
pub mod Ready
pub mod Stored
pub mod Opening
pub mod Outcomes
pub mod Marks
