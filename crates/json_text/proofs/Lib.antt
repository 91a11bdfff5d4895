-- Laws that the proofs cite, and what is proved of the texts.
pub mod Leading
pub mod Pieces
pub mod Plain
pub mod Characters
pub mod Kept
pub mod Shown
pub mod Sound
pub mod Encoded
