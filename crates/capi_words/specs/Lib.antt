-- What the numbers and words of a flat call stand for.
pub mod Words
