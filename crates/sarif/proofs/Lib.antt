-- What each return of the call shows; what a call leaves, read of its promise.
pub mod Telling
pub mod Afterwards
pub mod Releases
