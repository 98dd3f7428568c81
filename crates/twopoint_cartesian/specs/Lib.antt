pub mod Held
pub mod Readings
pub mod Cells
