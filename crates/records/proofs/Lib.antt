pub mod Curve
pub mod Outcomes
pub mod Accepted
