pub mod Table
pub mod Tabled
