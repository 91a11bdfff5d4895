-- 02, §1: "a rule for each code present": each once, in the order of the codes, where the results' indexes say. Assumes nothing.
use Prim.Native.Nat.{ℕ, zero, suc, ◌+◌, ◌-◌, ◌≤◌, ◌<◌}
use native.Mathlib.Omega.{arith}
use borrow.Author.Tests.{lt-ltb, ltb-true, eqb-true, eqb-false}
use mathlib.Core.Path.{◌≡◌, refl, sym, ap, subst, ◌∙◌}
use mathlib.Core.Bool.{Bool, true, false, cond}
use mathlib.Core.List.Memᴰ
use mathlib.Core.List.{List, [], ◌∷◌, map, Memᴰ}
use mathlib.Core.Logic.{◌⊎◌, inl, inr, ◌↔◌}
use mathlib.Core.Option.{some}
use lib.Dec.{eqb, ltb, eqb_refl}
use lib.ListN.{get_or, take}
use Rattle.rules.specs.Record.{Rec, listed, Each}
use Rattle.rules.specs.Joined.{count_of, tally_of}
use Rattle.base.proofs.Bools.{so}
use Rattle.json_text.specs.Text.{Json, Items, item}
use Rattle.spans.specs.Fit.{Fit}
use Rattle.sarif_log.specs.Log.{rule, rules, if_any, nonzeros, index_of}
use Rattle.sarif_log.specs.Rules.{nth, counted, present, each_rule, Ascending}
use Rattle.rules.specs.Joined.{codes, numbers}

-- ---- the rules listed are those of the codes that are present

listed_rule : (b : Bool) (c : ℕ) (cs : List ℕ) (xs : Items) → xs ≡ each_rule cs → if_any b (rule c) xs ≡ each_rule (listed b (c ∷ []) cs)
listed_rule true c cs xs e = ap (item (rule c)) e
listed_rule false c cs xs e = e

all_rules : (ns : List ℕ) (c : ℕ) → rules c ns ≡ each_rule (counted c ns)
unfolding rules
all_rules [] c = refl
all_rules (n ∷ ns) c = listed_rule (ltb 0 n) c (counted (suc c) ns) (rules (suc c) ns) (all_rules ns (suc c))

pub rules_listed : (rs : List Rec) → rules 1 (tally_of rs) ≡ each_rule (present rs)
rules_listed rs = all_rules (tally_of rs) 1

-- ---- each once

low_step : (b : Bool) (a c : ℕ) (cs : List ℕ) → a ≤ c → Each (λ d. a ≤ d) cs → Each (λ d. a ≤ d) (listed b (c ∷ []) cs)
low_step true a c cs l e = (l, e)
low_step false a c cs l e = e

low : (ns : List ℕ) (a c : ℕ) → a ≤ c → Each (λ d. a ≤ d) (counted c ns)
low [] a c l = tt
low (n ∷ ns) a c l = low_step (ltb 0 n) a c (counted (suc c) ns) l (low ns a (suc c) (omega arith))

up_step : (b : Bool) (c : ℕ) (cs : List ℕ) → Each (λ d. c < d) cs → Ascending cs → Ascending (listed b (c ∷ []) cs)
up_step true c cs l e = (l, e)
up_step false c cs l e = e

ascending : (ns : List ℕ) (c : ℕ) → Ascending (counted c ns)
ascending [] c = tt
ascending (n ∷ ns) c = up_step (ltb 0 n) c (counted (suc c) ns) (low ns (suc c) (suc c) (omega arith)) (ascending ns (suc c))

-- NO RULE IS LISTED TWICE: the codes of the rules ascend
pub rules_once : (rs : List Rec) → Ascending (present rs)
rules_once rs = ascending (tally_of rs) 1

-- ---- one for each code that has a record

record Counts (f : ℕ → ℕ) (a n c : ℕ) : Type 0 where
  low : a ≤ c
  high : c < a + n
  some_count : 0 < f c

module _ (f : ℕ → ℕ) where
  counts_step : (b : Bool) (a n c : ℕ) (cs : List ℕ) → ltb 0 (f a) ≡ b → (Memᴰ c cs → Counts f (suc a) n c)
      → Memᴰ c (listed b (a ∷ []) cs) → Counts f a (suc n) c
  counts_step false a n c cs e below m = let k = below m in omega arith
  counts_step true a n c cs e below m = go (Memᴰ.cases_cons m)
    where
      go : (c ≡ a) ⊎ Memᴰ c cs → Counts f a (suc n) c
      go (inl q) = let p : 0 < f c = rw q (ltb-true 0 (f a) e) in omega arith
      go (inr m) = let k = below m in omega arith

  counts : (n a c : ℕ) → Memᴰ c (counted a (map f (numbers n a))) → Counts f a n c
  counts zero a c m = absurd (Memᴰ.not-nil m)
  counts (suc n) a c m = counts_step (ltb 0 (f a)) a n c (counted (suc a) (map f (numbers n (suc a)))) refl (counts n (suc a) c) m

  later : (b : Bool) (a c : ℕ) (cs : List ℕ) → Memᴰ c cs → Memᴰ c (listed b (a ∷ []) cs)
  later true a c cs m = Memᴰ.tail m
  later false a c cs m = m

  there_step : (b : Bool) (a n c : ℕ) (cs : List ℕ) → eqb c a ≡ b → Counts f a (suc n) c → (Counts f (suc a) n c → Memᴰ c cs)
      → Memᴰ c (listed (ltb 0 (f a)) (a ∷ []) cs)
  there_step true a n c cs e k below =
      let q = eqb-true c a e in
      let p : ltb 0 (f a) ≡ true = lt-ltb 0 (f a) (rw q at k.some_count) in
      rw p (Memᴰ.head q)
  there_step false a n c cs e k below = let ne = eqb-false c a e in later (ltb 0 (f a)) a c cs (below (omega arith))

  there : (n a c : ℕ) → Counts f a n c → Memᴰ c (counted a (map f (numbers n a)))
  there zero a c k = absurd (omega arith)
  there (suc n) a c k = there_step (eqb c a) a n c (counted (suc a) (map f (numbers n (suc a)))) refl k (there n (suc a) c)

-- A RULE FOR EACH CODE PRESENT, and for no other
pub rule_for_each : (rs : List Rec) (c : ℕ) → 1 ≤ c → c ≤ codes → Memᴰ c (present rs) ↔ (0 < count_of c rs)
rule_for_each rs c l h = (
  λ m. (counts (λ d. count_of d rs) codes 1 c m).some_count,
  λ p. there (λ d. count_of d rs) codes 1 c (record { low = l; high = omega arith; some_count = p }),
)

pub no_other_rule : (rs : List Rec) (c : ℕ) → Memᴰ c (present rs) → (1 ≤ c) × (c ≤ codes)
no_other_rule rs c m = let k = counts (λ d. count_of d rs) codes 1 c m in omega arith

-- ---- where a result's index says

nth_step : (b : Bool) (c k : ℕ) (xs : Items) (x : Json) → nth xs k ≡ some x → nth (if_any b (rule c) xs) (cond b 1 0 + k) ≡ some x
nth_step true c k xs x e = let q : 1 + k ≡ suc k = omega arith in rw q e
nth_step false c k xs x e = let q : 0 + k ≡ k = omega arith in rw q e

nth_rule : (ns : List ℕ) (k c : ℕ) → 0 < get_or ns k 0 → nth (rules c ns) (nonzeros (take k ns)) ≡ some (rule (c + k))
unfolding rules
nth_rule [] k c h = absurd (omega arith)
nth_rule (n ∷ ns) zero c h = let q : c + 0 ≡ c = omega arith in rw (lt-ltb 0 n h, q)
nth_rule (n ∷ ns) (suc k) c h =
    let q : suc c + k ≡ c + suc k = omega arith in
    nth_step (ltb 0 n) c (nonzeros (take k ns)) (rules (suc c) ns) (rule (c + suc k)) (nth_rule ns k (suc c) h ∙ ap (λ (d : ℕ). some (rule d)) q)

count_at : (f : ℕ → ℕ) (n a k : ℕ) → k < n → get_or (map f (numbers n a)) k 0 ≡ f (a + k)
count_at f zero a k h = absurd (omega arith)
count_at f (suc n) a zero h = let q : a + 0 ≡ a = omega arith in rw q
count_at f (suc n) a (suc k) h = count_at f n (suc a) k (omega arith) ∙ ap f (omega arith)

count_more : (b : Bool) (n : ℕ) → 0 < n → 0 < cond b (suc n) n
count_more true n h = omega arith
count_more false n h = h

-- a record counts for its code
among : (r : Rec) (rs : List Rec) → Memᴰ r rs → 0 < count_of r.code rs
among r rs (Memᴰ.head {x = s} {xs = ss} e) = rw (e, so (eqb s.code s.code) (eqb_refl s.code)) (omega arith)
among r rs (Memᴰ.tail {x = s} {xs = ss} m) = count_more (eqb r.code s.code) (count_of r.code ss) (among r ss m)

fit_of : (r : Rec) (rs : List Rec) → Memᴰ r rs → Each Fit rs → Fit r
fit_of r rs (Memᴰ.head {x = s} {xs = ss} e) h = subst Fit (sym e) h.0
fit_of r rs (Memᴰ.tail {x = s} {xs = ss} m) h = fit_of r ss m h.1

-- AT A RESULT'S INDEX STANDS THE RULE OF ITS CODE
pub index_right : (rs : List Rec) → Each Fit rs → (r : Rec) → Memᴰ r rs
    → nth (rules 1 (tally_of rs)) (index_of (tally_of rs) r.code) ≡ some (rule r.code)
unfolding index_of
index_right rs h r m =
    let fit = fit_of r rs m h in
    let c = r.code in
    let k : 1 + (c - 1) ≡ c = omega arith in
    let at : get_or (tally_of rs) (c - 1) 0 ≡ count_of c rs = count_at (λ d. count_of d rs) codes 1 (c - 1) (omega arith) ∙ ap (λ (d : ℕ). count_of d rs) k in
    let p = among r rs m in
    nth_rule (tally_of rs) (c - 1) 1 (rw at p) ∙ ap (λ (d : ℕ). some (rule d)) k
