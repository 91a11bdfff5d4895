-- What every crate above may cite.
pub mod Ascii
pub mod Count
