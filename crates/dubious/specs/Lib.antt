-- What the contracts of dubious cite.
pub mod Scan
