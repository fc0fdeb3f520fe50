pub mod InnerReads
