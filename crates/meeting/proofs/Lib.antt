-- What is proved of the walk and of the words.
pub mod Siblings
pub mod Asks
pub mod Steps
pub mod Walking
pub mod Heads
pub mod Chains
pub mod First
