-- What a reader believes of a call; Telling is for the code.
pub mod Calls
pub mod Afterwards
pub mod Telling
