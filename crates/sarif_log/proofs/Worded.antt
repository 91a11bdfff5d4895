-- The words of messages as pieces of the code's texts. Assumes nothing.
use Prim.Native.Nat.{ℕ, suc, ◌+◌, ◌-◌, ◌≤◌, ◌<◌, min}
use Prim.Native.String.{String, [] as end, ◌∷◌ as ◌then◌}
use native.Mathlib.Omega.{arith}
use borrow.Author.Tests.{eqb-true, eqb-false}
use mathlib.Core.Path.{◌≡◌, refl, sym, ap, subst, ◌∙◌}
use mathlib.Core.Bool.{Bool, true, false}
use mathlib.Core.List.{List, [], ◌∷◌, ◌++◌, append_assoc}
use lib.Dec.{eqb, leb, leb→le}
use lib.ListN.{length, drop, get_or, length-take, length-drop, length-append}
use Rattle.base.specs.Ascii.{ascii}
use Rattle.rules.specs.Visit.{look}
use Rattle.rules.specs.Record.{Rec, Span}
use Rattle.rules.proofs.Look.{look_so}
use Rattle.codes.proofs.Pieced.{piece, Piece, pieces, letters, begins_from}
use Rattle.page.specs.Page.{Wrote}
use Rattle.json_text.specs.Escape.{escape}
use Rattle.json_text.specs.Text.{nil, text, items}
use Rattle.json_text.proofs.Plain.{all_plain, plain_same}
use Rattle.page.proofs.Pages.{then as joined, retold, wrote_most}
use Rattle.sarif_log.specs.Words.{phrases, reasons, kinds, seconds, reason, phrase, kind_word}
use Rattle.sarif_log.specs.Log.{other, related}
use Rattle.sarif_log.specs.Pieces.{related_place, second_related, all_related}
use Rattle.sarif_log.proofs.Plainly.{no_reason, reason_so, no_second, no_third}
use Rattle.rules.specs.Joined.{codes}

abbrev pub phrase_words : ℕ → List ℕ
phrase_words c = ascii (look c phrases "")

pub reason_short : (c n : ℕ) → length (reason c n) ≤ 34
reason_short c n = leb→le (length (reason c n)) 34 (reason_so (λ s. leb (length s) 34) tt tt c n)

words_short : (c : ℕ) → length (phrase_words c) ≤ 60
words_short c = leb→le (length (phrase_words c)) 60 (look_so (λ n s. leb (length (ascii s)) 60) c phrases "" tt tt)

pub phrase_short : (c n : ℕ) → length (phrase c n) ≤ 60
unfolding phrase
phrase_short c n = rw length-append (go (eqb c 16) refl)
  where
    go : (b : Bool) → eqb c 16 ≡ b → length (phrase_words c) + length (reason c n) ≤ 60
    go true e = rw (eqb-true c 16 e) (omega (arith, reason_short 16 n))
    go false e = rw (no_reason c n (eqb-false c 16 e)) (omega (arith, words_short c))

pub kind_short : (k : ℕ) → length (kind_word k) ≤ 16
unfolding kind_word
kind_short k = leb→le (length (kind_word k)) 16 (look_so (λ n s. leb (length (ascii s)) 16) k kinds "" tt tt)

-- ---- a second span, and a third

abbrev pub second_words : ℕ → List ℕ
second_words c = ascii (look c seconds "")

no_words : (w : String) (s : Span) (rest : List ℕ) → length (ascii w) ≡ 0 → rest ≡ items true (other w s nil) rest
unfolding text other
no_words end s rest e = refl
no_words (c then w) s rest e = absurd (omega arith)

some_words : (w : String) (s : Span) (rest : List ℕ) → 1 ≤ length (ascii w) → related_place (ascii w) s rest ≡ items true (other w s nil) rest
unfolding text other
some_words end s rest e = absurd (omega arith)
some_words (c then w) s rest e = refl

pub second_none : (c : ℕ) (s : Span) → second_words c ≡ [] → (rest : List ℕ) → rest ≡ second_related c s rest
second_none c s e rest = no_words (look c seconds "") s rest (ap (λ (l : List ℕ). length l) e)

pub second_some : (c : ℕ) (s : Span) (w : List ℕ) → w ≡ second_words c → 1 ≤ length w → (rest : List ℕ)
    → related_place w s rest ≡ second_related c s rest
second_some c s w e h rest =
    ap (λ (l : List ℕ). related_place l s rest) e
    ∙ some_words (look c seconds "") s rest (subst (λ (l : List ℕ). 1 ≤ length l) e h)

pub second_plain : (c : ℕ) → escape 0 (second_words c) ≡ second_words c
second_plain c = plain_same (second_words c) (look_so (λ n w. all_plain (ascii w)) c seconds "" tt tt)

pub second_short : (c : ℕ) → length (second_words c) ≤ 30
second_short c = leb→le (length (second_words c)) 30 (look_so (λ n w. leb (length (ascii w)) 30) c seconds "" tt tt)

module _ (r : Rec) (rest : List ℕ) where
  pub third_none : (r.code ≡ 7 → ⊥) → second_related r.code r.second rest ≡ all_related r rest
  unfolding related other
  third_none d = ap (λ (w : String). items true (other (look r.code seconds "") r.second (other w r.third nil)) rest) (sym (no_third r.code d))

  pub third_some : r.code ≡ 7
      → second_related r.code r.second (0x2C ∷ related_place (ascii "why the function wants a value") r.third rest) ≡ all_related r rest
  unfolding text related other
  third_some e = rw e
