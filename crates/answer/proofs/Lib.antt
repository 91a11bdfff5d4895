-- Laws for the passes.
pub mod Laws
pub mod Written
pub mod Returns
pub mod Bits
pub mod Flat
pub mod Each
pub mod ByRole
pub mod Whole
pub mod Lent
