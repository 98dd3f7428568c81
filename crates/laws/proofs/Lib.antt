-- Laws that the proofs of several crates share; none of them speaks of a run.
pub mod Integers
pub mod WholeFloats
pub mod Zeros
pub mod Lists
pub mod Sums
pub mod Folds
pub mod Grid
pub mod Cells
pub mod Loops
pub mod Places
pub mod Refusals
pub mod PlusZero
pub mod MinusZero
