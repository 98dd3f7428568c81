pub mod Parallel
