-- Laws that proofs above cite.
pub mod Bools
