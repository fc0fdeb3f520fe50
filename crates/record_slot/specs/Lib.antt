pub mod Stored
pub mod InnerSteps
