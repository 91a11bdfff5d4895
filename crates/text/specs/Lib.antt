-- What a reader believes of the listing's text; Pieces is for the code.
pub mod Text
pub mod Pieces
