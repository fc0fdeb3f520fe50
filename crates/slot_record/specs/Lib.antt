pub mod InnerRecord
