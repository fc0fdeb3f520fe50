pub mod Cells
pub mod Build
pub mod InnerSteps
pub mod Built
