-- What the parts of a string's text wrote. Assumes nothing.
use Prim.Native.Nat.{ℕ, zero, suc, ◌+◌, ◌-◌, ◌*◌, ◌/◌, ◌%◌, ◌≤◌, ◌<◌}
use native.Mathlib.Omega.{arith}
use native.Mathlib.Numerals.{add-one}
use mathlib.Core.Path.{◌≡◌, refl, ◌∙◌}
use mathlib.Core.Bool.{true, false}
use mathlib.Core.List.{List, [], ◌∷◌, ◌++◌}
use lib.ListN.{length, get_or, take, drop}
use lib.Seq.{drop-cons}
use Rattle.std.proofs.lemmas.List.{take_rest}
use Rattle.json_text.specs.Utf8.{more, whole, front}
use Rattle.json_text.specs.Escape.{must, hex_digit, hex, six, replacement, ascii_byte, unit, escape, first, left, hexes}
use Rattle.page.specs.Page.{Added}
use Rattle.page.specs.declared.Writer.{Writer}
use Rattle.page.proofs.Pages.{added_then, added_retold}
use Rattle.page.proofs.Going.{Adding, adding_next}

module _ {w w₁ : Writer} where
  pub hex_wrote : {w₂ : Writer} (b : ℕ) {x y : ℕ} → x ≡ hex_digit (b / 16 % 16) → y ≡ hex_digit (b % 16)
      → Added w w₁ 1 (λ rest. x ∷ rest) → Added w₁ w₂ 1 (λ rest. y ∷ rest) → Added w w₂ 2 (λ rest. hex b ++ rest)
  unfolding hex
  hex_wrote b e f p q = added_retold 2 (λ rest. hex b ++ rest) (added_then p q) (omega arith) (λ rest. rw (e, f))

  pub six_wrote : {w₂ : Writer} (b : ℕ) → Added w w₁ 4 (λ rest. 0x5C ∷ 0x75 ∷ 0x30 ∷ 0x30 ∷ rest)
      → Added w₁ w₂ 2 (λ rest. hex b ++ rest) → Added w w₂ 6 (λ rest. six b ++ rest)
  six_wrote b p q = added_retold 6 (λ rest. six b ++ rest) (added_then p q) (omega arith) (λ rest. refl)

  pub ascii_six : (b : ℕ) → must b ≡ true → Added w w₁ 6 (λ rest. six b ++ rest) → Added w w₁ 6 (λ rest. ascii_byte b ++ rest)
  ascii_six b e p = added_retold 6 (λ rest. ascii_byte b ++ rest) p (omega arith) (λ rest. rw e)

  pub ascii_kept : (b : ℕ) → must b ≡ false → Added w w₁ 1 (λ rest. b ∷ rest) → Added w w₁ 6 (λ rest. ascii_byte b ++ rest)
  ascii_kept b e p = added_retold 6 (λ rest. ascii_byte b ++ rest) p (omega arith) (λ rest. rw e)

  pub unit_none : (k b : ℕ) → k ≡ 0 → Added w w₁ 3 (λ rest. replacement ++ rest) → Added w w₁ 6 (λ rest. unit k b ++ rest)
  unfolding unit
  unit_none k b e p = added_retold 6 (λ rest. unit k b ++ rest) p (omega arith) (λ rest. rw e)

  pub unit_one : (k b : ℕ) → k ≡ 1 → Added w w₁ 6 (λ rest. ascii_byte b ++ rest) → Added w w₁ 6 (λ rest. unit k b ++ rest)
  unfolding unit
  unit_one k b e p = added_retold 6 (λ rest. unit k b ++ rest) p (omega arith) (λ rest. rw e)

  pub unit_more : (k b : ℕ) → (k ≡ 0 → ⊥) → (k ≡ 1 → ⊥) → Added w w₁ 1 (λ rest. b ∷ rest) → Added w w₁ 6 (λ rest. unit k b ++ rest)
  unfolding unit
  unit_more zero b f g p = absurd (f refl)
  unit_more (suc zero) b f g p = absurd (g refl)
  unit_more (suc (suc k)) b f g p = added_retold 6 (λ rest. b ∷ rest) p (omega arith) (λ rest. refl)

  -- byte i of s, inside a character and at its begin
  pub step_inside : (s : List ℕ) (i k : ℕ) → i < length s → 0 < k → Added w w₁ 1 (λ rest. get_or s i 0 ∷ rest)
      → Added w w₁ 6 (λ rest. first k (drop i s) ++ rest)
  unfolding first
  step_inside s i zero h g p = absurd (omega arith)
  step_inside s i (suc k) h g p =
      added_retold 6 (λ rest. first (suc k) (drop i s) ++ rest) p (omega arith) (λ rest. rw (drop-cons s i 0 h))

  pub step_begin : (s : List ℕ) (i k f : ℕ) → i < length s → k ≤ 0 → f ≡ front (drop i s)
      → Added w w₁ 6 (λ rest. unit f (get_or s i 0) ++ rest) → Added w w₁ 6 (λ rest. first k (drop i s) ++ rest)
  unfolding first
  step_begin s i zero f h g e p =
      added_retold 6 (λ rest. first zero (drop i s) ++ rest) p (omega arith) (λ rest. rw (e, drop-cons s i 0 h))
  step_begin s i (suc k) f h g e p = absurd (omega arith)

pub front_at : (s : List ℕ) (i m b c d r : ℕ) → i < length s → m ≡ more (get_or s i 0) → b ≡ get_or (drop i s) 1 0 → c ≡ get_or (drop i s) 2 0
    → d ≡ get_or (drop i s) 3 0 → r ≡ whole m (get_or s i 0) b c d → r ≡ front (drop i s)
unfolding front
front_at s i m b c d r h p q u v e = e ∙ rw (p, q, u, v, drop-cons s i 0 h)

pub left_inside : (s : List ℕ) (k : ℕ) → 0 < k → k - 1 ≡ left k s
unfolding left
left_inside s zero h = absurd (omega arith)
left_inside s (suc k) h = omega arith

pub left_begin : (s : List ℕ) (k f : ℕ) → k ≤ 0 → f ≡ front s → f - 1 ≡ left k s
unfolding left
left_begin s zero f h e = rw e
left_begin s (suc k) f h e = absurd (omega arith)

-- ---- what a loop has still to write, one byte taken off

pub hexes_next : (s : List ℕ) (i : ℕ) → i < length s → hexes (drop i s) ≡ hex (get_or s i 0) ++ hexes (drop (i + 1) s)
unfolding hexes
hexes_next s i h = rw (add-one, drop-cons s i 0)

escape_parts : (k b : ℕ) (s : List ℕ) → escape k (b ∷ s) ≡ first k (b ∷ s) ++ escape (left k (b ∷ s)) s
unfolding escape first left
escape_parts zero b s = refl
escape_parts (suc k) b s = refl

pub escape_next : (s : List ℕ) (i k : ℕ) → i < length s
    → escape k (drop i s) ≡ first k (drop i s) ++ escape (left k (drop i s)) (drop (i + 1) s)
escape_next s i k h = rw (add-one, drop-cons s i 0 h) (escape_parts k (get_or s i 0) (drop (suc i) s))

pub hexes_end : (s : List ℕ) → s ≡ [] → hexes s ≡ []
unfolding hexes
hexes_end s e = rw e

pub escape_end : (s : List ℕ) (k : ℕ) → s ≡ [] → escape k s ≡ []
unfolding escape
escape_end s k e = rw e

-- of s from byte i on the first is written
pub escape_adding : {w w₁ w₂ : Writer} {whole : List ℕ} (s : List ℕ) (i k m : ℕ) → i < length s
    → Adding w w₁ (6 * i) (escape k (drop i s)) whole → Added w₁ w₂ 6 (λ rest. first k (take (length s - i) (drop i s)) ++ rest)
    → m ≡ left k (take (length s - i) (drop i s)) → Adding w w₂ (6 * (i + 1)) (escape m (drop (i + 1) s)) whole
escape_adding s i k m h g a e =
    let b = rw take_rest at a in
    let f = rw take_rest at e in
    adding_next (6 * (i + 1)) (first k (drop i s)) (escape m (drop (i + 1) s)) g b (rw f (escape_next s i k h)) (omega arith)
