-- What the contracts of incompatible cite.
pub mod Ground
pub mod Five
pub mod Ledger
