-- For the code and its laws: nobody has to believe what stands here.
pub mod Offsets
pub mod Stages
pub mod Kids
pub mod Packed
pub mod Part
pub mod Find
pub mod Shape
pub mod Sound
pub mod Halving
pub mod Numbers
pub mod Samples
pub mod Kinds
pub mod Siblings
