-- Laws of the joined call, and the demands read of it.
pub mod Link
pub mod First
pub mod Demands
pub mod Releases
