pub mod Readings
pub mod Refusals
pub mod Bounded
