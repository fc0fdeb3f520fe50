pub mod Runs
pub mod InnerRuns
pub mod Worked
