-- How the walk goes through the tree, and what the call answers.
pub mod Methods
pub mod Going
pub mod Parts
pub mod Rows
pub mod Held
pub mod Starts
pub mod Fails
pub mod Whole
pub mod Telling
pub mod FirstMet
pub mod Promised
pub mod Roles
