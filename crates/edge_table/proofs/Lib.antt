pub mod Order
pub mod Lookups
pub mod Examples
