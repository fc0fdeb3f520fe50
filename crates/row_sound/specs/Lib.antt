pub mod Sound
pub mod InnerWalk
pub mod Written
pub mod Reread
pub mod InnerSlots
pub mod Laid
pub mod InnerSound
