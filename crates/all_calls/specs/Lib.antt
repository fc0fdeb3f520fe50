pub mod Lent
pub mod EitherForm
pub mod Inside
