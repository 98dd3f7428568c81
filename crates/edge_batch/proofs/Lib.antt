pub mod Loops
pub mod Cuts
pub mod Batch
pub mod Examples
