-- SARIF 2.1.0, 3.11.5: how a reader shows a message: "{N}" stands for argument N, from 0 on, "{{" and "}}" for a brace. Assumes nothing.
use Rattle.std.specs.Prelude.{ℕ, zero, suc, ◌+◌, ◌*◌, ◌-◌, cond, List, [], ◌∷◌, ◌++◌, eqb}
use Rattle.std.proofs.Math.Option.{Option, none, some}
use Rattle.tree.specs.Values.{Value}
use Rattle.tree.specs.Table.{at}
use Rattle.rules.specs.Record.{Rec}
use Rattle.json_text.specs.Grammar.{digit}
use Rattle.sarif_log.specs.Words.{phrase_of, kind_word, shown}
use Rattle.sarif_log.specs.Reader.{and_then}

-- what a reader has read last: an opening brace, the digits of a number after it, a closing brace, or none of these
pub data Within : Type 0 where
  outside opened closed : Within
  numbered : ℕ → Within

-- what a byte adds to what is shown, and where the reader is then
pub record Step : Type 0 where
  pub shows : List ℕ
  pub then : Within

abbrev pub on : List ℕ → Within → Option Step
on s p = some (record { shows = s; then = p })

abbrev pub argument : List (List ℕ) → ℕ → Option (List ℕ)
argument [] n = none
argument (a ∷ more) zero = some a
argument (a ∷ more) (suc n) = argument more n

-- none: 3.11.5 has no such text
abbrev pub step : List (List ℕ) → Within → ℕ → Option Step
step args outside b = cond (eqb b 0x7B) (on [] opened) (cond (eqb b 0x7D) (on [] closed) (on (b ∷ []) outside))
step args opened b = cond (eqb b 0x7B) (on (0x7B ∷ []) outside) (cond (digit b) (on [] (numbered (b - 48))) none)
step args (numbered n) b =
    cond (eqb b 0x7D) (and_then (argument args n) (λ a. on a outside)) (cond (digit b) (on [] (numbered (10 * n + (b - 48)))) none)
step args closed b = cond (eqb b 0x7D) (on (0x7D ∷ []) outside) none

abbrev pub at_end : Within → Option (List ℕ)
at_end outside = some []
at_end opened = none
at_end closed = none
at_end (numbered n) = none

unfoldable pub fill : List (List ℕ) → Within → List ℕ → Option (List ℕ)
fill args p [] = at_end p
fill args p (b ∷ s) = and_then (step args p b) (λ x. and_then (fill args x.then s) (λ e. some (x.shows ++ e)))

-- a message's text with its arguments, as it is shown
abbrev pub filled : List (List ℕ) → List ℕ → Option (List ℕ)
filled args s = fill args outside s

-- what is to be shown of a record: its phrase, and the kind and the text of its value
abbrev pub says : List Value → Rec → List ℕ
says vs r = let v = at vs r.spot.value in phrase_of r ++ (kind_word v.kind ++ shown v)
