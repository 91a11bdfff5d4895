-- Laws of the words laid over a room, what ample rooms give, what the contracts say, codes shown.
pub mod Laws
pub mod Ample
pub mod Promised
pub mod Shown
