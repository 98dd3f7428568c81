-- What the contracts of this crate cite.
pub mod Offsets
pub mod Steps
pub mod Walk
