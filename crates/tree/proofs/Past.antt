-- Numbers past the end. Assumes nothing.
use Prim.Native.Nat.{ℕ, ◌+◌, ◌≤◌}
use native.Mathlib.Omega.{arith}
use mathlib.Core.Path.{◌≡◌, sym, ◌∙◌}
use mathlib.Core.List.{List}
use mathlib.Core.Logic.{inl, inr}
use lib.ListN.{length, get_or, get_or-eq_default}
use Rattle.tree.specs.Bytes.{u16_at, u32_at}
use Rattle.tree.specs.code.Offsets.{Place}

pub byte_past : (s : List ℕ) (at : ℕ) → length s ≤ at → get_or s at 0 ≡ 0
byte_past s at h = get_or-eq_default s 0 h

pub u16_past : (s : List ℕ) (at : ℕ) → length s ≤ at → u16_at s at ≡ 0
unfolding u16_at
u16_past s at h = omega (arith, byte_past s at h, byte_past s (at + 1) (omega arith))

pub u32_past : (s : List ℕ) (at : ℕ) → length s ≤ at → u32_at s at ≡ 0
unfolding u32_at
u32_past s at h = omega (arith, u16_past s at h, u16_past s (at + 2) (omega arith))

-- at a place that stands for another, the same bytes and numbers
pub byte_there : (t : List ℕ) (p o k : ℕ) → Place t p o → get_or t (o + k) 0 ≡ get_or t (p + k) 0
byte_there t p o k (inl e) = rw e
byte_there t p o k (inr h) = byte_past t (o + k) (omega arith) ∙ sym (byte_past t (p + k) (omega arith))

pub u16_there : (t : List ℕ) (p o k : ℕ) → Place t p o → u16_at t (o + k) ≡ u16_at t (p + k)
u16_there t p o k (inl e) = rw e
u16_there t p o k (inr h) = u16_past t (o + k) (omega arith) ∙ sym (u16_past t (p + k) (omega arith))

pub u32_there : (t : List ℕ) (p o k : ℕ) → Place t p o → u32_at t (o + k) ≡ u32_at t (p + k)
u32_there t p o k (inl e) = rw e
u32_there t p o k (inr h) = u32_past t (o + k) (omega arith) ∙ sym (u32_past t (p + k) (omega arith))
