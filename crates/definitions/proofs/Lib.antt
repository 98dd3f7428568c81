pub mod Clauses
pub mod Readings
