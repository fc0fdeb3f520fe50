pub mod History
pub mod Demand
pub mod Reread
pub mod Worked
pub mod BothKinds
pub mod LongRows
