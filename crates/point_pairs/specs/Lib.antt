-- What this crate's contracts cite besides the definitions.
pub mod Pairs
