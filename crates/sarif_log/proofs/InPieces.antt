-- The log in pieces: each is what a function writes, and one after the other they are the log. Assumes nothing.
use Prim.Native.Nat.{ℕ, zero, suc, ◌+◌, ◌-◌, ◌*◌, ◌≤◌, ◌<◌}
use native.Mathlib.Omega.{arith}
use mathlib.Core.Path.{◌≡◌, refl, sym, ap, ◌∙◌}
use mathlib.Core.Bool.{Bool, true, false}
use mathlib.Core.List.{List, [], ◌∷◌, ◌++◌, foldr}
use lib.Dec.{eqb}
use borrow.Author.Tests.{ne_eqb}
use lib.ListN.{length, drop, get_or, length-append, get_or-append}
use lib.Seq.{drop-drop, get_or_at}
use Rattle.rules.specs.Record.{Rec, width}
use Rattle.rules.specs.Joined.{tally_of}
use Rattle.rules.specs.Afterwards.{record_in, records_in}
use Rattle.json_text.specs.Text.{comma, text, lines}
use Rattle.json_text.proofs.Sound.{text_rest}
use Rattle.sarif_log.specs.Log.{result, results, log}
use Rattle.sarif_log.specs.Pieces.{head, tail, result_lines, pieces, piece_of}
use Rattle.sarif_log.proofs.Shapes.{log_text}

-- a line before what follows it
line_rest : (first : Bool) (t tally : List ℕ) (r : Rec) (rest : List ℕ)
    → comma first (0x0A ∷ text (result t tally r) []) ++ rest ≡ comma first (0x0A ∷ text (result t tally r) rest)
line_rest true t tally r rest = ap (λ (l : List ℕ). 0x0A ∷ l) (sym (text_rest (result t tally r) rest))
line_rest false t tally r rest = ap (λ (l : List ℕ). 0x2C ∷ 0x0A ∷ l) (sym (text_rest (result t tally r) rest))

-- one after the other
abbrev pub all_of : List (List ℕ) → List ℕ
all_of ss = foldr {B = List ℕ} (λ s rest. s ++ rest) [] ss

all_lines : (rs : List Rec) (first : Bool) (t tally : List ℕ)
    → all_of (result_lines first t tally rs ++ (tail ∷ [])) ≡ lines first (results t tally rs) tail
unfolding results text
all_lines [] first t tally = refl
all_lines (r ∷ rs) first t tally =
    line_rest first t tally r (all_of (result_lines false t tally rs ++ (tail ∷ [])))
    ∙ ap (λ (l : List ℕ). comma first (0x0A ∷ text (result t tally r) l)) (all_lines rs false t tally)

-- THE PIECES ARE THE LOG
pub pieces_log : (t : List ℕ) (rs : List Rec) → all_of (pieces t (tally_of rs) rs) ≡ log t rs
unfolding pieces log
pieces_log t rs =
    ap (λ (l : List ℕ). head (tally_of rs) ++ l) (all_lines rs true t (tally_of rs)) ∙ log_text t (tally_of rs) rs []

-- each record has one, and there are two besides
pub pieces_count : (t tally : List ℕ) (rs : List Rec) → length (pieces t tally rs) ≡ length rs + 2
unfolding pieces
pieces_count t tally rs = rw length-append (omega (arith, as_many rs true))
  where
    as_many : (rs : List Rec) (first : Bool) → length (result_lines first t tally rs) ≡ length rs
    as_many [] first = refl
    as_many (r ∷ rs) first = ap suc (as_many rs false)

-- ---- piece k, as the code writes it

module _ (t tally : List ℕ) where
  lines_long : (n : ℕ) (first : Bool) (list : List ℕ) → length (result_lines first t tally (records_in n list)) ≡ n
  lines_long zero first list = refl
  lines_long (suc n) first list = ap suc (lines_long n false (drop width list))

  later_line : (n j : ℕ) (list : List ℕ) → j < n
      → get_or (result_lines false t tally (records_in n list)) j [] ≡ comma false (0x0A ∷ text (result t tally (record_in (drop (width * j) list))) [])
  later_line zero j list h = absurd (omega arith)
  later_line (suc n) zero list h = refl
  later_line (suc n) (suc j) list h =
      let e : width * suc j ≡ width + width * j = omega arith in
      later_line n j (drop width list) (omega arith)
      ∙ rw e (ap (λ (l : List ℕ). comma false (0x0A ∷ text (result t tally (record_in l)) [])) (drop-drop (width * j) width list))

  line_at : (n j : ℕ) (list : List ℕ) → j < n
      → get_or (result_lines true t tally (records_in n list)) j [] ≡ comma (eqb j 0) (0x0A ∷ text (result t tally (record_in (drop (width * j) list))) [])
  line_at zero j list h = absurd (omega arith)
  line_at (suc n) zero list h = refl
  line_at (suc n) (suc j) list h =
      let z : eqb (suc j) 0 ≡ false = ne_eqb (suc j) 0 (λ q. omega arith) in
      later_line (suc n) (suc j) list h ∙ rw z

module _ (t tally list : List ℕ) (count : ℕ) (rest : List ℕ) where
  pub head_piece : (k : ℕ) → k ≡ 0 → head tally ++ rest ≡ piece_of t tally (records_in count list) k ++ rest
  unfolding pieces
  head_piece k e = rw e

  pub tail_piece : (k : ℕ) → k ≤ count + 1 → count < k → tail ++ rest ≡ piece_of t tally (records_in count list) k ++ rest
  unfolding pieces
  tail_piece k h l =
      let e : k ≡ suc count = omega arith in
      rw (e, get_or_at (result_lines true t tally (records_in count list)) tail [] [] count (lines_long t tally count true list))

  pub line_piece : (k : ℕ) → ¬ (k ≡ 0) → k ≤ count
      → comma (eqb (k - 1) 0) (0x0A ∷ text (result t tally (record_in (drop (width * (k - 1)) list))) rest)
      ≡ piece_of t tally (records_in count list) k ++ rest
  unfolding pieces
  line_piece zero d h = absurd (d refl)
  line_piece (suc j) d h =
      let e : suc j - 1 ≡ j = omega arith in
      let m = lines_long t tally count true list in
      rw (e, get_or-append (result_lines true t tally (records_in count list)) (tail ∷ []) [] j (omega arith), line_at t tally count j list (omega arith))
      (sym (line_rest (eqb j 0) t tally (record_in (drop (width * j) list)) rest))
