pub mod Readings
pub mod Sets
