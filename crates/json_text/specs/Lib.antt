-- What the contracts of json cite, and what its theorems speak of.
pub mod Utf8
pub mod Grammar
pub mod Escape
pub mod Text
pub mod Kept
