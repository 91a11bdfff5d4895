-- What the contracts of names cite.
pub mod Walk
pub mod Records
