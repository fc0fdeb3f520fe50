pub mod Types
pub mod Schema
pub mod Check
pub mod InnerSteps
pub mod InnerCheck
