-- What the contracts of page cite.
pub mod Digits
pub mod Page
