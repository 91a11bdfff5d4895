-- Laws of the pass.
pub mod Checks
pub mod Told
pub mod Deeds
pub mod Valid
pub mod Promised
