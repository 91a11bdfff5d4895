-- Laws of the words, and what each method does to the house of rules' Marks.
pub mod Lists
pub mod Alike
pub mod Find
pub mod Seeks
pub mod Steps
pub mod Cells
pub mod Over
pub mod Frames
pub mod Sets
pub mod Notes
pub mod Uses
pub mod Leaves
pub mod Passing
pub mod Closing
pub mod Kept
pub mod Sides
