-- Definitions that the contracts of several crates cite, beside those of crates/definitions.
pub mod Loops
pub mod Stores
pub mod Refusals
