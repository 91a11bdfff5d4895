-- What the contracts of flow cite.
pub mod Returns
pub mod Walks
