pub mod Rules
pub mod Loops
pub mod Runs
pub mod Batches
pub mod Examples
