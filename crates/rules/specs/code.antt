-- For the engines and their laws: nobody has to believe it.
pub mod Marks
pub mod Decoded
