pub mod Refusal
pub mod Result
pub mod Answer
