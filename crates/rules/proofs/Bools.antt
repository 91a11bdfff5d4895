-- Laws of truth values, passed on.
pub use Rattle.base.proofs.Bools.{so, nope, or_left, or_right, or_case, or_cases, or_other, and_left, and_right, both, nor_left, nor_right, nor_both, never, implies, imply, test, decide}
