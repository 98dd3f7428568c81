pub mod Stores
pub mod Numbers
pub mod Columns
pub mod Files
