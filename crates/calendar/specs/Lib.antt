pub mod Calendar
pub mod Moment
pub mod Days
pub mod InnerDays
pub mod InnerMoment
