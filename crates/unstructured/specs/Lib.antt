pub mod Readings
pub mod Held
pub mod Pairs
pub mod Batches
