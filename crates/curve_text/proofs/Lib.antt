pub mod Lines
pub mod Fitting
