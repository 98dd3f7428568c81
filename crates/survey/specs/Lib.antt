-- What demand 3 claims, beyond the definitions of document 01.
pub mod Demand3
