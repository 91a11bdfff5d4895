-- What the code of this crate does: for its proofs, and for who uses it.
pub mod Asked
pub mod Words
pub mod Meant
pub mod Walked
