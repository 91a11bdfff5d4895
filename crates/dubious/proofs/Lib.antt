-- Laws that the proofs cite.
pub mod Steps
pub mod Keyed
pub mod Promised
