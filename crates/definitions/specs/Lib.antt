-- The definitions of document 01: what a reader must believe.
pub mod Lists
pub mod Floats
pub mod Bins
pub mod Points
pub mod Blocks
pub mod Reducer
pub mod Run
pub mod State
pub mod Segments
pub mod Rules
pub mod Survey
pub mod Records
pub mod Readings
