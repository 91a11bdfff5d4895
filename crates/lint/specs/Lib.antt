-- What the contracts of lint cite.
pub mod Links
