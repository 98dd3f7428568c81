pub mod Ways
pub mod Placewise
