-- Words laid over a room; numbers that are no code; what is called, by its parts. Assumes nothing.
use Rattle.std.specs.Prelude.{Result, Ok, Err}
use Rattle.std.specs.Result.{OkIff, result_unwrap_or}
use Prim.Native.Nat.{ℕ, suc, ◌+◌, ◌-◌, ◌≤◌, ◌<◌, min}
use mathlib.Core.Bool.{false}
use mathlib.Core.Logic.{◌⊎◌, inl, inr}
use mathlib.Core.Path.{◌≡◌, refl, sym, ap, ◌∙◌}
use mathlib.Core.List.{List, [], ◌∷◌, ◌++◌}
use native.Mathlib.Omega.{arith}
use native.Mathlib.Numerals.{add-one}
use lib.ListN.{length, get_or, take, drop, set, length-take, length-drop, length-append}
use lib.Seq.{take-suc, drop-cons, append_snoc, set_at, set_out, take-append-le, take_at, get_or_at}
use borrow.Author.Tests.{ne_eqb}
use Rattle.tree.specs.declared.Mode.{Mode}
use Rattle.codes.proofs.Padded.{no_name}
use Rattle.rules.specs.Codes.{disabled, short_name}
use Rattle.rules.specs.Joined.{codes}
use Rattle.rules.specs.Calls.{DoneWithWork, lint_call}
use Rattle.rules.specs.declared.Answer.{Answer}
use Rattle.rules.proofs.Answered.{short_or_not}
use Rattle.sarif.specs.Calls.{Done as LogDone, sarif_call}
use Rattle.sarif.specs.declared.Answer.{Answer as LogAnswer}
use Rattle.lint_c.specs.Face.{over, laid, number_of, report_of, called, as_listed, log_report_of, sarif_called}

-- one word more
pub over_more : (ws room : List ℕ) (k : ℕ) → k < length ws → k < length room → set (over k ws room) k (get_or ws k 0) ≡ over (k + 1) ws room
unfolding over
over_more ws room k h g =
    let e : length (take k ws) ≡ k = omega (arith, length-take k ws) in
    ap (λ (r : List ℕ). set (take k ws ++ r) k (get_or ws k 0)) (drop-cons room k 0 g)
    ∙ set_at (take k ws) (get_or room k 0) (drop (suc k) room) (get_or ws k 0) k e
    ∙ sym (append_snoc (take k ws) (get_or ws k 0) (drop (suc k) room))
    ∙ ap (λ (l : List ℕ). l ++ drop (suc k) room) (sym (take-suc ws k 0 h))
    ∙ ap (λ (j : ℕ). take j ws ++ drop j room) (sym (add-one k))

pub over_none : (ws room : List ℕ) → room ≡ over 0 ws room
unfolding over
over_none ws room = refl

-- only the words that are laid matter
pub over_front : (ws more room : List ℕ) (k : ℕ) → k ≤ length ws → over k (ws ++ more) room ≡ over k ws room
unfolding over
over_front ws more room k h = ap (λ (l : List ℕ). l ++ drop k room) (take-append-le k ws more h)

over_long : (ws room : List ℕ) (k : ℕ) → k ≤ length ws → k ≤ length room → length (over k ws room) ≡ length room
unfolding over
over_long ws room k h g = omega (arith, length-append (take k ws) (drop k room), length-take k ws, length-drop k room)

-- a last word
pub laid_more : (n : ℕ) (ws room room' : List ℕ) (b : ℕ) → n ≡ length ws → room' ≡ laid ws room → set room' n b ≡ laid (ws ++ (b ∷ [])) room
unfolding laid
laid_more n ws room room' b e f = rw (f, e) (go (short_or_not (length ws) (length room)))
  where
    long : length (ws ++ (b ∷ [])) ≡ length ws + 1
    long = length-append ws (b ∷ [])

    go : (length ws < length room) ⊎ (length room ≤ length ws)
        → set (over (min (length ws) (length room)) ws room) (length ws) b ≡ over (min (length (ws ++ (b ∷ []))) (length room)) (ws ++ (b ∷ [])) room
    go (inl h) =
        let m : min (length ws) (length room) ≡ length ws = omega arith in
        let k : min (length (ws ++ (b ∷ []))) (length room) ≡ length ws + 1 = omega (arith, long) in
        let e : get_or (ws ++ (b ∷ [])) (length ws) 0 ≡ b = get_or_at ws b [] 0 (length ws) refl in
        rw (m, k)
        (ap (λ (r : List ℕ). set r (length ws) b) (sym (over_front ws (b ∷ []) room (length ws) (omega arith)))
        ∙ ap (λ (x : ℕ). set (over (length ws) (ws ++ (b ∷ [])) room) (length ws) x) (sym e)
        ∙ over_more (ws ++ (b ∷ [])) room (length ws) (omega (arith, long)) h)
    go (inr h) =
        let m : min (length ws) (length room) ≡ length room = omega arith in
        let k : min (length (ws ++ (b ∷ []))) (length room) ≡ length room = omega (arith, long) in
        let l : length (over (length room) ws room) ≡ length room = over_long ws room (length room) h (omega arith) in
        rw (m, k) (set_out (over (length room) ws room) (length ws) b (omega arith) ∙ sym (over_front ws (b ∷ []) room (length room) h))

-- what is copied as far as the room goes
pub laid_so : (ws room room' : List ℕ) → room' ≡ take (min (length ws) (length room)) ws ++ drop (min (length ws) (length room)) room
    → room' ≡ laid ws room
unfolding laid over
laid_so ws room room' e = e

-- a report's words, of which a log's bytes are the last: p, the place; c, the counts
pub report_words : (p b : ℕ) (c words : List ℕ) → length words ≡ codes + 2 → words ≡ (p ∷ c) ++ (b ∷ []) → take (codes + 1) words ≡ p ∷ c
report_words p b c words l e =
    let k : length ((p ∷ c) ++ (b ∷ [])) ≡ length (p ∷ c) + 1 = length-append (p ∷ c) (b ∷ []) in
    let m : length words ≡ length ((p ∷ c) ++ (b ∷ [])) = ap length e in
    ap (take (codes + 1)) e ∙ take_at (p ∷ c) (b ∷ []) (codes + 1) (omega (arith, k, m, l))

-- above 17
pub no_code : (c : ℕ) → codes < c → disabled c ≡ false
no_code c h =
    rw (
      ne_eqb c 1 (λ e. omega arith),
      ne_eqb c 2 (λ e. omega arith),
      ne_eqb c 3 (λ e. omega arith),
      ne_eqb c 5 (λ e. omega arith),
      ne_eqb c 10 (λ e. omega arith),
      ne_eqb c 11 (λ e. omega arith),
    )

-- a number that is no u32 answers as 0 does
pub as_code : {E : Type 0} (c x : ℕ) (r : Result ℕ E) → OkIff r (c < 4294967296) c → x ≡ result_unwrap_or r 0
    → (disabled x ≡ disabled c) × (short_name x ≡ short_name c)
unfolding short_name
as_code c x (Ok y) h e = let s : x ≡ c = e ∙ h.1 in (ap disabled s, ap short_name s)
as_code c x (Err why) h e =
    let s : codes < c = omega (arith, h) in
    (ap disabled e ∙ sym (no_code c s), ap short_name e ∙ sym (no_name c s))

-- a report told after the call is the one that is called
pub told : (mode : Mode) (t work room report : List ℕ) (a : Answer) (work' room' report' : List ℕ) (n : ℕ)
    → record { answer = a; room = room'; work = work' } ≡ lint_call mode t work room → n ≡ number_of a.outcome → report' ≡ laid (report_of a) report
    → record { number = n; work = work'; room = room'; report = report' } ≡ called mode t work room report
told mode t work room report a work' room' report' n e f g =
    let k = f ∙ ap (λ (d : DoneWithWork). number_of d.answer.outcome) e in
    let l = g ∙ ap (λ (d : DoneWithWork). laid (report_of d.answer) report) e in
    λ i. record { number = k i; work = (e i).work; room = (e i).room; report = l i }

-- ... and so is a log's report
pub logged : (mode : Mode) (t work room output report : List ℕ) (a : LogAnswer) (work' room' output' report' : List ℕ) (n : ℕ)
    → record { answer = a; work = work'; room = room'; output = output' } ≡ sarif_call mode t work room output
    → n ≡ number_of (as_listed a.outcome) → report' ≡ laid (log_report_of a) report
    → record { number = n; work = work'; room = room'; output = output'; report = report' } ≡ sarif_called mode t work room output report
logged mode t work room output report a work' room' output' report' n e f g =
    let k = f ∙ ap (λ (d : LogDone). number_of (as_listed d.answer.outcome)) e in
    let l = g ∙ ap (λ (d : LogDone). laid (log_report_of d.answer) report) e in
    λ i. record { number = k i; work = (e i).work; room = (e i).room; output = (e i).output; report = l i }
