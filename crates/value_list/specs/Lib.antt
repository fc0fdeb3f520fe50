pub mod Records
pub mod Lists
pub mod Forms
pub mod InnerSizes
pub mod InnerLists
pub mod InnerRecords
