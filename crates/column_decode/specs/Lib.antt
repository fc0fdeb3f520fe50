pub mod InnerColumn
