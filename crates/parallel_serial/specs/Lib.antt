pub mod Built
pub mod Drive
pub mod Sets
pub mod Setups
pub mod Usable
