-- Every record of a valid file's list is fit, and its numbers lead to its nodes.
pub mod Made
pub mod Tree
pub mod Flow
pub mod Incompatible
pub mod Dubious
pub mod Names
pub mod Whole
