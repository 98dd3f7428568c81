pub mod Refusals
pub mod Packs
pub mod Results
pub mod View
