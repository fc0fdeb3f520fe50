pub mod Rfc3629
pub mod Check
pub mod Characters
pub mod InnerEach
pub mod InnerCharacters
pub mod InnerRuns
pub mod InnerTails
