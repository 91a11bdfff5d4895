-- Laws that the proofs of the functions cite; theorems of the log: it is read back, its messages are shown as meant, its rules are
-- right, its size, its pieces.
pub mod Plainly
pub mod Worded
pub mod Shapes
pub mod Turns
pub mod Valued
pub mod Decimal
pub mod Quiet
pub mod ReadBack
pub mod Filled
pub mod Present
pub mod Weight
pub mod TextSize
pub mod Size
pub mod InPieces
pub mod Promised
pub mod Listed
