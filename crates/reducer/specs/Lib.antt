pub mod Readings
pub mod Consume
pub mod Usable
