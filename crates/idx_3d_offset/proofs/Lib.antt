pub mod Ranges
pub mod Steps
pub mod Sequence
pub mod Lengths
