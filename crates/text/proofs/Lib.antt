-- Laws of the listing's lines, and what the call's text is.
pub mod Lines
pub mod Told
pub mod Promised
pub mod Examples
