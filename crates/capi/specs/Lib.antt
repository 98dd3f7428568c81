-- What the numbers of a flat call stand for.
pub mod Entries
