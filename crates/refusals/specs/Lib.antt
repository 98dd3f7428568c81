-- What the answers of calls mean.
pub mod Numbers
