-- What the contracts of scope cite.
pub mod Lists
pub mod State
pub mod Words
pub mod Does
