-- What a request asks for, and what is handed to a write call.
pub mod Choices
pub mod Handed
