-- Laws of bytes written one after the other, and of a number's digits.
pub mod Pages
pub mod Going
pub mod Decimals
