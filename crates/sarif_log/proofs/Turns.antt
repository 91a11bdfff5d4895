-- A loop that writes, turn by turn: what is still to be written. Assumes nothing.
use Prim.Native.Nat.{ℕ, zero, suc, ◌+◌, ◌-◌, ◌*◌, ◌≤◌, ◌<◌, min}
use native.Mathlib.Omega.{arith}
use native.Mathlib.Numerals.{add-one}
use borrow.Author.Tests.{ne_eqb, lt-ltb, le-ltb, leb-true, leb-false}
use Rattle.rules.specs.Joined.{codes}
use mathlib.Core.Path.{◌≡◌, refl, sym, ap, ◌∙◌}
use mathlib.Core.Bool.{Bool, true, false, cond}
use mathlib.Core.List.{List, [], ◌∷◌}
use lib.Dec.{ltb, leb, eqb}
use lib.ListN.{length, take, drop, get_or, drop_of_length-le}
use lib.Seq.{drop-cons, drop-drop, get_or-drop, take_all}
use Rattle.rules.specs.Record.{Rec}
use Rattle.rules.specs.Afterwards.{record_in, records_in}
use Rattle.page.specs.Page.{page, writes, Wrote}
use Rattle.json_text.specs.Text.{comma, text, lines}
use Rattle.sarif_log.specs.Log.{nonzeros, index_of, result, results, rule, if_any, rules}
use Rattle.sarif_log.specs.Pieces.{rule_line}
use Rattle.rules.specs.Record.{width}

-- of what f puts before the rest, what g puts there is still to be written
pub record Turning (o : List ℕ) (n : ℕ) (o' : List ℕ) (n' k : ℕ) (f g : List ℕ → List ℕ) : Type 0 where
  pub so : (rest : List ℕ) → writes (page o' n') (g rest) ≡ writes (page o n) (f rest)
  pub most : n' ≤ n + k

pub turning_first : (o : List ℕ) (n : ℕ) (f g : List ℕ → List ℕ) → ((rest : List ℕ) → g rest ≡ f rest) → Turning o n o n 0 f g
turning_first o n f g e = record { so = λ rest. ap (λ (l : List ℕ). writes (page o n) l) (e rest); most = omega arith }

pub turning_next : {o o₁ o₂ : List ℕ} {n n₁ n₂ j k : ℕ} {f g h : List ℕ → List ℕ} (i : ℕ) (g' : List ℕ → List ℕ) → Turning o n o₁ n₁ k f g
    → Wrote o₁ n₁ o₂ n₂ j h → ((rest : List ℕ) → g rest ≡ h (g' rest)) → k + j ≤ i → Turning o n o₂ n₂ i f g'
turning_next {o₁ = o₁} {n₁ = n₁} i g' t w e l = record {
  so = λ rest. w.so (g' rest) ∙ sym (ap (λ (x : List ℕ). writes (page o₁ n₁) x) (e rest)) ∙ t.so rest;
  most = omega arith;
}

pub turning_last : {o o₁ : List ℕ} {n n₁ k : ℕ} {f g : List ℕ → List ℕ} (i : ℕ) → Turning o n o₁ n₁ k f g → ((rest : List ℕ) → g rest ≡ rest)
    → k ≤ i → Wrote o n o₁ n₁ i f
turning_last {o₁ = o₁} {n₁ = n₁} i t e l = record {
  so = λ rest. sym (ap (λ (x : List ℕ). writes (page o₁ n₁) x) (e rest)) ∙ t.so rest;
  most = omega arith;
}

-- ---- counts that are not 0

pub nonzeros_next : (tally : List ℕ) (k : ℕ) → k < length tally
    → nonzeros (take (suc k) tally) ≡ nonzeros (take k tally) + cond (ltb 0 (get_or tally k 0)) 1 0
nonzeros_next [] k h = absurd (omega arith)
nonzeros_next (n ∷ ns) zero h = omega arith
nonzeros_next (n ∷ ns) (suc k) h = omega (arith, nonzeros_next ns k (omega arith))

cond_most : (b : Bool) → cond b 1 0 ≤ 1
cond_most true = omega arith
cond_most false = omega arith

pub nonzeros_most : (tally : List ℕ) (k : ℕ) → nonzeros (take k tally) ≤ k
nonzeros_most [] zero = omega arith
nonzeros_most [] (suc k) = omega arith
nonzeros_most (n ∷ ns) zero = omega arith
nonzeros_most (n ∷ ns) (suc k) = omega (arith, nonzeros_most ns k, cond_most (ltb 0 n))

pub nonzeros_past : (tally : List ℕ) (j k : ℕ) → length tally ≤ j → length tally ≤ k → nonzeros (take j tally) ≡ nonzeros (take k tally)
nonzeros_past [] zero zero h l = refl
nonzeros_past [] zero (suc k) h l = refl
nonzeros_past [] (suc j) zero h l = refl
nonzeros_past [] (suc j) (suc k) h l = refl
nonzeros_past (n ∷ ns) zero k h l = absurd (omega arith)
nonzeros_past (n ∷ ns) (suc j) zero h l = absurd (omega arith)
nonzeros_past (n ∷ ns) (suc j) (suc k) h l = ap (λ (x : ℕ). cond (ltb 0 n) 1 0 + x) (nonzeros_past ns j k (omega arith) (omega arith))

pub counts_on : (e : List ℕ) (k i i' : ℕ) → k < length e → i ≡ nonzeros (take k e) → i' ≡ i + cond (ltb 0 (get_or e k 0)) 1 0
    → i' ≡ nonzeros (take (k + 1) e)
counts_on e k i i' h p q = q ∙ ap (λ (x : ℕ). x + cond (ltb 0 (get_or e k 0)) 1 0) p ∙ sym (rw (← add-one) at (nonzeros_next e k h))

-- all of the first b counts, b as many as there are before the code
pub index_met : (tally : List ℕ) (code b k i : ℕ) → length tally ≤ codes → b ≡ min (code - 1) codes → length (take b tally) ≤ k
    → i ≡ nonzeros (take k (take b tally)) → i ≡ index_of tally code
unfolding index_of
index_met tally code b k i l e h q =
    q ∙ ap nonzeros (take_all k (take b tally) h) ∙ go (leb (code - 1) codes) refl
  where
    go : (x : Bool) → leb (code - 1) codes ≡ x → nonzeros (take b tally) ≡ nonzeros (take (code - 1) tally)
    go true r = let z : b ≡ code - 1 = omega (arith, leb-true (code - 1) codes r) in rw z
    go false r = let m = leb-false (code - 1) codes r in nonzeros_past tally b (code - 1) (omega arith) (omega arith)

-- ---- the rules from a code on

abbrev pub rules_left : List ℕ → ℕ → List ℕ → List ℕ
rules_left tally code rest = lines (eqb (index_of tally code) 0) (rules code (drop (code - 1) tally)) rest

pub rules_all : (tally rest : List ℕ) → rules_left tally 1 rest ≡ lines true (rules 1 tally) rest
unfolding index_of
rules_all tally rest = refl

abbrev left_at : List ℕ → ℕ → ℕ → List ℕ → List ℕ
left_at tally code j rest = lines (eqb (nonzeros (take j tally)) 0) (rules code (drop j tally)) rest

abbrev line_at : List ℕ → ℕ → ℕ → List ℕ → List ℕ
line_at tally code j rest =
    elim (ltb 0 (get_or tally j 0)) [
      | true ↦ comma (eqb (nonzeros (take j tally)) 0) (0x0A ∷ text (rule code) rest)
      | false ↦ rest
    ]

step_at : (tally : List ℕ) (k : ℕ) → k < length tally → (rest : List ℕ)
    → left_at tally (suc k) k rest ≡ line_at tally (suc k) k (left_at tally (suc (suc k)) (suc k) rest)
unfolding rules text
step_at tally k h rest =
    rw (drop-cons tally k 0 h, nonzeros_next tally k h) (go (ltb 0 (get_or tally k 0)))
  where
    go : (x : Bool)
        → lines (eqb (nonzeros (take k tally)) 0) (if_any x (rule (suc k)) (rules (suc (suc k)) (drop (suc k) tally))) rest
        ≡ elim x as (λ y. List ℕ) [
          | true ↦ comma (eqb (nonzeros (take k tally)) 0)
              (0x0A ∷ text (rule (suc k)) (lines (eqb (nonzeros (take k tally) + cond x 1 0) 0) (rules (suc (suc k)) (drop (suc k) tally)) rest))
          | false ↦ lines (eqb (nonzeros (take k tally) + cond x 1 0) 0) (rules (suc (suc k)) (drop (suc k) tally)) rest
        ]
    go true = let z : eqb (nonzeros (take k tally) + 1) 0 ≡ false = ne_eqb (nonzeros (take k tally) + 1) 0 (λ q. omega arith) in rw z
    go false = let z : nonzeros (take k tally) + 0 ≡ nonzeros (take k tally) = omega arith in rw z

pub rules_next : (tally : List ℕ) (code : ℕ) → 1 ≤ code → code ≤ length tally → (rest : List ℕ)
    → rules_left tally code rest ≡ rule_line tally code (rules_left tally (code + 1) rest)
unfolding index_of
rules_next tally zero p h rest = absurd (omega arith)
rules_next tally (suc k) p h rest =
    let a : suc k - 1 ≡ k = omega arith in
    let b : suc k + 1 - 1 ≡ suc k = omega arith in
    let c : suc k + 1 ≡ suc (suc k) = omega arith in
    ap (λ (j : ℕ). left_at tally (suc k) j rest) a
    ∙ step_at tally k (omega arith) rest
    ∙ sym (ap (λ (j : ℕ). line_at tally (suc k) j (left_at tally (suc k + 1) (suc k + 1 - 1) rest)) a
    ∙ ap (λ (j : ℕ). line_at tally (suc k) k (left_at tally (suc k + 1) j rest)) b
    ∙ ap (λ (j : ℕ). line_at tally (suc k) k (left_at tally j (suc k) rest)) c)

pub rules_none : (tally : List ℕ) (code : ℕ) → length tally ≤ code - 1 → (rest : List ℕ) → rules_left tally code rest ≡ rest
unfolding rules text
rules_none tally code h rest = rw (drop_of_length-le tally {i = code - 1} h)

-- ---- the results from record k on

module _ (t tally list : List ℕ) (count : ℕ) where
  abbrev pub records_left : ℕ → List Rec
  records_left k = records_in (count - k) (drop (width * k) list)

  abbrev pub results_left : ℕ → List ℕ → List ℕ
  results_left k rest = lines (eqb k 0) (results t tally (records_left k)) rest

  pub results_all : (rest : List ℕ) → results_left 0 rest ≡ lines true (results t tally (records_in count list)) rest
  results_all rest = let z : count - 0 ≡ count = omega arith in rw z

  pub results_next : (k : ℕ) → k < count → (rest : List ℕ)
      → results_left k rest ≡ comma (eqb k 0) (0x0A ∷ text (result t tally (record_in (drop (width * k) list))) (results_left (k + 1) rest))
  unfolding results text
  results_next k h rest =
      let a : count - k ≡ suc (count - (k + 1)) = omega arith in
      let b : width * (k + 1) ≡ width * k + width = omega arith in
      let z : eqb (k + 1) 0 ≡ false = ne_eqb (k + 1) 0 (λ q. omega arith) in
      rw (a, b, z) (ap (λ (l : List ℕ). comma (eqb k 0) (0x0A ∷ text (result t tally (record_in (drop (width * k) list))) (lines false (results t tally (records_in (count - (k + 1)) l)) rest))) (drop-drop width (width * k) list))

  pub results_none : (k : ℕ) → count ≤ k → (rest : List ℕ) → results_left k rest ≡ rest
  unfolding results text
  results_none k h rest = let z : count - k ≡ 0 = omega arith in rw z

-- record k, word by word
pub words_at : (list : List ℕ) (k j : ℕ) → get_or (drop (width * k) list) j 0 ≡ get_or list (width * k + j) 0
words_at list k j = get_or-drop (width * k) list j 0

-- ---- the rule of a code, absent or present

pub rule_absent : (tally : List ℕ) (code : ℕ) → get_or tally (code - 1) 0 ≡ 0 → (rest : List ℕ) → rest ≡ rule_line tally code rest
rule_absent tally code e rest = let z : ltb 0 (get_or tally (code - 1) 0) ≡ false = le-ltb 0 (get_or tally (code - 1) 0) (omega arith) in rw (z, rule_line)

pub rule_present : (tally : List ℕ) (code : ℕ) → (get_or tally (code - 1) 0 ≡ 0 → ⊥) → (rest : List ℕ)
    → comma (eqb (index_of tally code) 0) (0x0A ∷ text (rule code) rest) ≡ rule_line tally code rest
rule_present tally code d rest = let z : ltb 0 (get_or tally (code - 1) 0) ≡ true = lt-ltb 0 (get_or tally (code - 1) 0) (omega arith) in rw (z, rule_line)
