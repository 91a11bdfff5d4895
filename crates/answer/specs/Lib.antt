-- What the contracts of answer cite.
pub mod Page
pub mod Note
pub mod Answers
