-- What the promises of the calls give the program: the bytes that it hands to its write calls.
pub mod Handed
