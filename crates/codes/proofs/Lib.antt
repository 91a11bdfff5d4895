-- Words that stand one after another in one text; a short name in its bytes.
pub mod Pieced
pub mod Padded
