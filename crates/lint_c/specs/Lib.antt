-- What the face for C hands back.
pub mod Face
