-- What holds of every record that a valid file's list has.
pub mod Fit
pub mod Placed
