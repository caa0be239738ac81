pub mod Field
pub mod Columns
