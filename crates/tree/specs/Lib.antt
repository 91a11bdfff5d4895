-- What the contracts of tree cite. What a reader believes is in this folder; what only code and its laws need is in code/.
pub mod Bytes
pub mod Search
pub mod Forest
pub mod Values
pub mod Keys
pub mod Table
pub mod Nodes
pub mod Children
pub mod Judge
pub mod Written
pub mod Versions
pub mod Releases
pub mod code
