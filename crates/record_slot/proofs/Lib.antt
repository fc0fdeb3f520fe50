pub mod Tests
pub mod Held
pub mod Forms
pub mod Points
