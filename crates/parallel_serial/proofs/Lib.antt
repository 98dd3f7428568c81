pub mod Refusals
pub mod Scratch
