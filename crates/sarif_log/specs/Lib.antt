-- What a reader believes of the log: what is written, how it is read back, how its messages are shown, which rules it lists; Pieces is
-- for the code.
pub mod Words
pub mod Log
pub mod Rules
pub mod Reader
pub mod Fill
pub mod Size
pub mod Pieces
