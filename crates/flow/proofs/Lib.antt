-- Laws that the proofs cite.
pub mod LastLaws
pub mod EndsLaws
pub mod ReturnsLaws
pub mod TidyLaws
pub mod SameTests
pub mod ListIs
pub mod Beside
pub mod Forms
pub mod Steps
pub mod Tails
pub mod Reaching
pub mod Promised
