-- How many records flow, incompatible and dubious list: a few for each node, so that their number can be counted.
use Prim.Native.Nat.{ℕ, suc, ◌+◌, ◌*◌, ◌≤◌}
use native.Mathlib.Omega.{arith}
use mathlib.Core.Path.{◌≡◌, refl, sym, ap, subst}
use mathlib.Core.Bool.{Bool, true, false, cond, ◌&&◌, ◌||◌, not}
use mathlib.Core.List.{List, [], ◌∷◌, ◌++◌}
use mathlib.Core.Logic.{◌⊎◌, inl, inr}
use mathlib.Core.Option.{Option, none, some}
use lib.Dec.{eqb, T, T_not, eqb→eq}
use lib.ListN.{length, length-append, length-map}
use Rattle.tree.specs.Bytes.{version_of}
use Rattle.tree.specs.Forest.{Spot, Head, Forest, Forest.none as leaf, node, tree_of}
use Rattle.tree.specs.declared.Likeness.{Likeness}
use Rattle.tree.specs.declared.Likeness.TheVariants.{Different, SameForm, SameNumber}
use Rattle.tree.specs.Keys.{like}
use Rattle.tree.specs.declared.Mode.{Mode}
use Rattle.tree.specs.Table.{table_of, spells, underscored, globals_of, a_string, at}
use Rattle.rules.proofs.Out.{names_few}
use Rattle.rules.specs.Joined.{lint_list}
use Rattle.rules.specs.Names.{names, met_in, told, names_list}
use Rattle.rules.specs.Record.{Rec, listed, valued_at, plainly, named_at}
use Rattle.rules.specs.Visit.{has, look, last_of, head_at, spot_at, each as each_node, kind_among}
use Rattle.rules.specs.Order.{Bind, one, several, nothing, bind_of, fail_name}
use Rattle.rules.specs.Flow.{flow, Loads, loads_part, loads, effect, effect_part, effect_walk, tail_part, tail, redundant_part, redundant_walk, below_root, Reached, Course, in_list, one_by_one, only, after_stop, reached_part, reached, Return, everything, the_body, the_rest, returns_part, returns, ends, missing, missing_expression, bare_recs, check_for, check, reason, returns_walk, none_name, flow_list}
use Rattle.rules.specs.declared.Allowance.{Allowance}
use Rattle.rules.specs.Incompatible.{check_at, type_check, Deed, defines, repeats, deed_part, defined_names, self_set, Top, assigning, modifying, defining, loading, holding, aside, tops, top_part, deeds, First, first_of, was_free, defined, may_repeat, repeated, incompatible, allowance, type_name, five_types, spells_one, incompatible_list}
use Rattle.rules.specs.Dubious.{seen_with, keys, clash, against, doubles, dict_at, idle_at, dubious, dubious_list}
use Rattle.rules.specs.code.Marks.{nodes}
use Rattle.rules.proofs.Look.{row, one_kind, look_none}
use Rattle.rules.proofs.Bools.{both}

listed_most : {A : Type 0} (b : Bool) (x y : List A) → length (listed b x y) ≤ length x + length y
listed_most true x y = let p : length (x ++ y) ≡ length x + length y = length-append x y in omega arith
listed_most false x y = omega arith

listed_one : (b : Bool) (r : Rec) → length (listed b (r ∷ []) []) ≤ 1
listed_one true r = omega arith
listed_one false r = omega arith

-- ---- returns: a def's own, and those of the defs within it

split_step : (b : Bool) (a x y z : List Return) → length x + length y ≡ length z
    → length (listed b a x) + length (listed (not b) a y) ≡ length (a ++ z)
split_step true a x y z h =
    let p : length (a ++ x) ≡ length a + length x = length-append a x in
    let q : length (a ++ z) ≡ length a + length z = length-append a z in omega arith
split_step false a x y z h =
    let p : length (a ++ y) ≡ length a + length y = length-append a y in
    let q : length (a ++ z) ≡ length a + length z = length-append a z in omega arith

returns_split : (k : Forest) → length (returns the_body k) + length (returns the_rest k) ≡ length (returns everything k)
returns_split leaf = refl
returns_split (node h k s) =
    split_step (eqb 1 h.role) (returns_part h.kind h k (λ v. returns v k)) (returns the_body s) (returns the_rest s)
    (returns everything s) (returns_split s)

part_most : (z : ℕ) (h : Head) (k : Forest) → length (returns_part z h k (λ v. returns v k)) ≤ suc (length (returns everything k))
part_most z h k =
    let p = returns_split k in
    let Q : List Return → Type 0 = λ l. length l ≤ suc (length (returns everything k)) in
    row Q (eqb z 4) _ _ (omega arith) (row Q (eqb z 12) _ _ (omega arith) (omega arith))

bare_most : (h : Head) (name : Spot) (why : Head) (rs : List Return) → length (bare_recs h name why rs) ≤ length rs
bare_most h name why [] = omega arith
bare_most h name why (r ∷ rs) =
    let p = listed_most (not r.valued) (missing_expression h name why r.head ∷ []) (bare_recs h name why rs) in
    let q = bare_most h name why rs in omega arith

module _ (is_fail is_none : ℕ → Bool) where
  check_most : (h : Head) (k : Forest) (o : Option Head) → length (check_for is_fail is_none h k o) ≤ suc (length (returns the_body k))
  check_most h k none = omega arith
  check_most h k (some why) =
      let p = listed_most (not (ends is_fail 1 k)) (missing h (spot_at 6 k) why ∷ []) (bare_recs h (spot_at 6 k) why (returns the_body k)) in
      let q = bare_most h (spot_at 6 k) why (returns the_body k) in omega arith

  -- a def's records and the returns it keeps to itself
  own_most : (z : ℕ) (h : Head) (k : Forest) → (z ≡ 12) ⊎ T (not (eqb z 12))
      → length (check is_fail is_none z h k) + length (returns_part z h k (λ v. returns v k)) ≤ suc (length (returns everything k))
  own_most z h k (inl e) =
      let p = check_most h k (reason is_none k) in
      let q = returns_split k in
      subst (λ (y : ℕ). length (check is_fail is_none y h k) + length (returns_part y h k (λ v. returns v k)) ≤ suc
      (length (returns everything k)))
      (sym e) (omega arith)
  own_most z h k (inr t) =
      let e : length (check is_fail is_none z h k) ≡ 0
      = ap length (look_none z ((12, check_for is_fail is_none h k (reason is_none k)) ∷ []) [] (both (not (eqb z 12)) true t tt)) in
      let p = part_most z h k in
      omega (arith, e, p)

  walk_most : (f : Forest) → length (returns_walk is_fail is_none f) + length (returns everything f) ≤ nodes f
  walk_most leaf = omega arith
  walk_most (node h k s) =
      let a = own_most h.kind h k (one_kind h.kind 12) in
      let b = walk_most k in
      let c = walk_most s in
      let p = length-append (check is_fail is_none h.kind h k) (returns_walk is_fail is_none k ++ returns_walk is_fail is_none s) in
      let q = length-append (returns_walk is_fail is_none k) (returns_walk is_fail is_none s) in
      let r = length-append (returns_part h.kind h k (λ v. returns v k)) (returns everything s) in
      omega arith

  pub returns_few : (f : Forest) → length (returns_walk is_fail is_none f) ≤ nodes f
  returns_few f = let p = walk_most f in omega arith

-- ---- reachable

apart : (r q x : ℕ) → T (not (eqb r q)) → T (eqb r x) → T (eqb q x) → ⊥
apart r q x n a b = T_not (eqb r q) n (subst (λ (y : ℕ). T (eqb r y)) (sym (eqb→eq q x b)) a)

both_steps : (b c : Bool) (a x y : Reached) (n m : ℕ) → (T b → T c → ⊥) → length a.recs ≤ n → length x.recs + length y.recs ≤ m
    → length (elim b as (λ z. Reached) [ true ↦ a | false ↦ x ]).recs + length
    (elim c as (λ z. Reached) [ true ↦ a | false ↦ y ]).recs ≤ n + m
both_steps true true a x y n m h p q = absurd (h tt tt)
both_steps true false a x y n m h p q = omega arith
both_steps false true a x y n m h p q = omega arith
both_steps false false a x y n m h p q = omega arith

one_step : (b : Bool) (a x : Reached) (n m : ℕ) → length a.recs ≤ n → length x.recs ≤ m
    → length (elim b as (λ z. Reached) [ true ↦ a | false ↦ x ]).recs ≤ n + m
one_step true a x n m p q = omega arith
one_step false a x n m p q = omega arith

after_most : (s : Forest) → length (after_stop s) ≤ nodes s
after_most leaf = omega arith
after_most (node h k s) = omega arith

module _ (is_fail : ℕ → Bool) where
  abbrev many : Course → Forest → ℕ
  many m f = length (reached is_fail m f).recs

  record Reaches (f : Forest) : Type 0 where
    in_order : many in_list f ≤ nodes f
    by_one : many one_by_one f ≤ nodes f
    single : (r : ℕ) → many (only r) f ≤ nodes f
    double : (r q : ℕ) → T (not (eqb r q)) → many (only r) f + many (only q) f ≤ nodes f

  part_reach : (z : ℕ) (k : Forest) → Reaches k → length (reached_part is_fail z k (λ v. reached is_fail v k)).recs ≤ nodes k
  part_reach z k c =
      let p = length-append (reached is_fail (only 1) k).recs (reached is_fail (only 2) k).recs in
      let q = c.double 1 2 tt in
      let Q : Reached → Type 0 = λ r. length r.recs ≤ nodes k in
      row Q (eqb z 1) _ _ (omega arith) (row Q (eqb z 2) _ _ (omega arith) (row Q (eqb z 4) _ _ (omega arith) (row Q (eqb z 5) _ _ (omega arith) (row Q (eqb z 8) _ _ c.in_order (row Q (eqb z 10) _ _ (omega arith) c.by_one)))))

  list_step : (a b : Reached) (s : Forest) (n : ℕ) → length a.recs ≤ n → length b.recs ≤ nodes s → (x : Bool)
      → length (elim x as (λ z. Reached) [
        | true ↦ record { stops = true; recs = a.recs ++ after_stop s }
        | false ↦ record { stops = b.stops; recs = a.recs ++ b.recs }
      ]).recs ≤ n + nodes s
  list_step a b s n p q true =
      let e = length-append a.recs (after_stop s) in
      let f = after_most s in omega arith
  list_step a b s n p q false = let e = length-append a.recs b.recs in omega arith

  reaches : (f : Forest) → Reaches f
  reaches leaf = record { in_order = omega arith; by_one = omega arith; single = λ r. omega arith; double = λ r q n. omega arith }
  reaches (node h k s) =
      let c = reaches s in
      let a = reached_part is_fail h.kind k (λ v. reached is_fail v k) in
      let p : length a.recs ≤ nodes k = part_reach h.kind k (reaches k) in
      record {
        in_order = (let e : many in_list (node h k s) ≤ nodes k + nodes s = list_step a (reached is_fail in_list s) s (nodes k) p
            c.in_order a.stops in omega (arith, e));
        by_one = (let e = length-append a.recs (reached is_fail one_by_one s).recs in let d = c.by_one in omega (arith, e, d, p));
        single = λ r. (let e : many (only r) (node h k s) ≤ nodes k + nodes s = one_step (eqb r h.role) a (reached is_fail (only r) s)
            (nodes k) (nodes s) p (c.single r) in omega (arith, e));
        double = λ r q n. (let e : many (only r) (node h k s) + many (only q) (node h k s) ≤ nodes k + nodes s
            = both_steps (eqb r h.role) (eqb q h.role) a (reached is_fail (only r) s) (reached is_fail (only q) s) (nodes k) (nodes s)
            (apart r q h.role n) p (c.double r q n) in omega (arith, e));
      }

  pub reach_few : (m : Course) (f : Forest) → length (reached is_fail m f).recs ≤ nodes f
  reach_few in_list f = (reaches f).in_order
  reach_few one_by_one f = (reaches f).by_one
  reach_few (only r) f = (reaches f).single r

-- ---- redundant

last_most : (b m : Bool) (here on : List Rec) → length (last_of b m here on) ≤ length here + length on
last_most false m here on = omega arith
last_most true true here on = omega arith
last_most true false here on = omega arith

-- of two roles at most one is a node's
last_two : (b c m o : Bool) (here x y : List Rec) → (T b → T c → ⊥)
    → length (last_of b m here x) + length (last_of c o here y) ≤ length here + (length x + length y)
last_two true true m o here x y h = absurd (h tt tt)
last_two true false true o here x y h = omega arith
last_two true false false o here x y h = omega arith
last_two false true m true here x y h = omega arith
last_two false true m false here x y h = omega arith
last_two false false m o here x y h = omega arith

record Tails (f : Forest) : Type 0 where
  one : (l : Bool) (r : ℕ) → length (redundant_walk f) + length (tail l r f) ≤ nodes f
  two : (l : Bool) (r q : ℕ) → T (not (eqb r q)) → length (redundant_walk f) + (length (tail l r f) + length (tail l q f)) ≤ nodes f

tail_most : (z : ℕ) (l : Bool) (h : Head) (k : Forest) → Tails k
    → length (redundant_walk k) + length (tail_part z l h k (λ v. tail l v k)) ≤ suc (nodes k)
tail_most z l h k c =
    let n = c.one l 0 in
    let o = c.one l 1 in
    let p = c.two l 1 2 tt in
    let q = listed_most l (plainly 11 h ∷ []) [] in
    let r = listed_most (not l && not (has 4 k)) (plainly 10 h ∷ []) [] in
    let e = length-append (tail l 1 k) (tail l 2 k) in
    let Q : List Rec → Type 0 = λ x. length (redundant_walk k) + length x ≤ suc (nodes k) in
    row Q (eqb z 2) _ _ (omega arith) (row Q (eqb z 4) _ _ (omega arith) (row Q (eqb z 8) _ _ (omega arith) (row Q (eqb z 9) _ _ (omega arith) (row Q (eqb z 10) _ _ (omega arith) (omega arith)))))

abbrev Held : ℕ → Bool → Head → Forest → Type 0
Held z l h k = length (redundant_part z k) + (length (redundant_walk k) + length (tail_part z l h k (λ v. tail l v k))) ≤ suc (nodes k)

held_for : (l : Bool) (h : Head) (k : Forest) → Tails k → Held 11 l h k
held_for l h k c = let p = c.one true 1 in omega arith

held_def : (l : Bool) (h : Head) (k : Forest) → Tails k → Held 12 l h k
held_def l h k c = let p = c.one false 1 in omega arith

held : (z : ℕ) (l : Bool) (h : Head) (k : Forest) → Tails k → (z ≡ 11) ⊎ T (not (eqb z 11)) → (z ≡ 12) ⊎ T (not (eqb z 12)) → Held z l h k
held z l h k c (inl e) y = subst (λ (x : ℕ). Held x l h k) (sym e) (held_for l h k c)
held z l h k c (inr n) (inl e) = subst (λ (x : ℕ). Held x l h k) (sym e) (held_def l h k c)
held z l h k c (inr n) (inr m) =
    let e : length (redundant_part z k) ≡ 0
    = ap length (look_none z ((11, tail true 1 k) ∷ (12, tail false 1 k) ∷ []) []
    (both (not (eqb z 11)) (not (eqb z 12) && true) n (both (not (eqb z 12)) true m tt))) in
    let p = tail_most z l h k c in
    omega (arith, e, p)

tails : (f : Forest) → Tails f
tails leaf = record { one = λ l r. omega arith; two = λ l r q n. omega arith }
tails (node h k s) =
    let c = tails s in
    let z = h.kind in
    let w = length-append (redundant_part z k) (redundant_walk k ++ redundant_walk s) in
    let x = length-append (redundant_walk k) (redundant_walk s) in
    record {
      one = λ l r. (let a = held z l h k (tails k) (one_kind z 11) (one_kind z 12) in
          let b = last_most (eqb r h.role) (has r s) (tail_part z l h k (λ v. tail l v k)) (tail l r s) in
          let d = c.one l r in omega (arith, a, b, d, w, x));
      two = λ l r q n. (let a = held z l h k (tails k) (one_kind z 11) (one_kind z 12) in
          let b = last_two (eqb r h.role) (eqb q h.role) (has r s) (has q s) (tail_part z l h k (λ v. tail l v k)) (tail l r s)
          (tail l q s) (apart r q h.role n) in
          let d = c.two l r q n in omega (arith, a, b, d, w, x));
    }

pub redundant_few : (f : Forest) → length (redundant_walk f) ≤ nodes f
redundant_few f = let p = (tails f).one true 0 in omega arith

-- ---- loads and effect

module _ (is-string : ℕ → Bool) where
  load_most : (z : ℕ) (may : Bool) (h : Head) (k : Forest) → ((m : Bool) → length (loads is-string m k).recs ≤ nodes k)
      → length (loads_part is-string z may h k (λ v. loads is-string v k)).recs ≤ suc (nodes k)
  load_most z may h k c =
      let p = c may in
      let q = listed_most (not may) (plainly 12 h ∷ []) [] in
      let Q : Loads → Type 0 = λ l. length l.recs ≤ suc (nodes k) in
      row Q (eqb z 5) _ _ (omega arith) (row Q (eqb z 8) _ _ (omega arith) (row Q (eqb z 13) _ _ (omega arith) (omega arith)))

  pub loads_few : (f : Forest) (may : Bool) → length (loads is-string may f).recs ≤ nodes f
  loads_few leaf may = omega arith
  loads_few (node h k s) may =
      let a = loads_part is-string h.kind may h k (λ v. loads is-string v k) in
      let p = load_most h.kind may h k (loads_few k) in
      let q = loads_few s a.may in
      let e = length-append a.recs (loads is-string a.may s).recs in
      omega (arith, p, q, e)

  pub effect_few : (f : Forest) → length (effect_walk is-string f) ≤ nodes f
  effect_few leaf = omega arith
  effect_few (node h k s) =
      let q = effect_few k in
      let r = listed_most (not (effect is-string k)) (plainly 13 (head_at 4 k) ∷ []) [] in
      let p : length (effect_part is-string h.kind k (effect_walk is-string k)) ≤ suc (nodes k)
      = row (λ l. length l ≤ suc (nodes k)) (eqb h.kind 5) _ _ (omega arith) (omega arith) in
      let d = effect_few s in
      let e = length-append (effect_part is-string h.kind k (effect_walk is-string k)) (effect_walk is-string s) in
      omega (arith, p, d, e)

below_few : (f : Forest) → nodes (below_root f) ≤ nodes f
below_few leaf = omega arith
below_few (node h k s) = omega arith

-- FLOW: at most five records a node
pub flow_few : (is_fail is_none is-string : ℕ → Bool) (f : Forest) → length (flow is_fail is_none is-string f) ≤ 5 * nodes f
flow_few is_fail is_none is-string f =
    let a = returns_walk is_fail is_none f in
    let b = (reached is_fail (only 0) f).recs in
    let c = redundant_walk (below_root f) in
    let d = (loads is-string true f).recs in
    let e = effect_walk is-string f in
    let p = length-append a (b ++ (c ++ (d ++ e))) in
    let q = length-append b (c ++ (d ++ e)) in
    let r = length-append c (d ++ e) in
    let s = length-append d e in
    let t = returns_few is_fail is_none f in
    let u = reach_few is_fail (only 0) f in
    let v = redundant_few (below_root f) in
    let w = below_few f in
    let x = loads_few is-string f true in
    let y = effect_few is-string f in
    omega (arith, p, q, r, s, t, u, v, w, x, y)

-- ---- incompatible

each_few : (g : Head → Forest → List Rec) → ((h : Head) (k : Forest) → length (g h k) ≤ 1) → (f : Forest) → length (each_node g f) ≤ nodes f
each_few g c leaf = omega arith
each_few g c (node h k s) =
    let a = c h k in
    let p = each_few g c k in
    let q = each_few g c s in
    let e = length-append (g h k) (each_node g k ++ each_node g s) in
    let d = length-append (each_node g k) (each_node g s) in
    omega arith

bind_most : (z : Bind) (s : Head) (k : Forest) → length (defined_names 0 k) ≤ nodes k → length (deed_part z s (λ v. defined_names v k)) ≤ suc (nodes k)
bind_most (one o) s k c = omega arith
bind_most several s k c = omega arith
bind_most nothing s k c = omega arith

named_few : (r : ℕ) (f : Forest) → length (defined_names r f) ≤ nodes f
named_few r leaf = omega arith
named_few r (node h k s) =
    let a = bind_most (bind_of h) h k (named_few 0 k) in
    let b = named_few r s in
    let p = listed_most (eqb r h.role) (deed_part (bind_of h) h (λ v. defined_names v k)) (defined_names r s) in
    omega arith

cond_most : (b : Bool) (s : Head) (l : List Deed) (n : ℕ) → length l ≤ n → length (cond b (repeats s ∷ []) l) ≤ suc n
cond_most true s l n h = omega arith
cond_most false s l n h = omega arith

top_most : (z : Top) (k : Forest) → length (deeds k) ≤ nodes k → length (top_part z k (deeds k)) ≤ suc (nodes k)
top_most assigning k c = cond_most (self_set k) (head_at 5 k) (defined_names 5 k) (nodes k) (named_few 5 k)
top_most modifying k c = let p = named_few 5 k in omega arith
top_most defining k c = let p = named_few 6 k in omega arith
top_most loading k c = let p = named_few 0 k in omega arith
top_most holding k c = omega arith
top_most aside k c = omega arith

deeds_few : (f : Forest) → length (deeds f) ≤ nodes f
deeds_few leaf = omega arith
deeds_few (node h k s) =
    let a = top_most (look h.kind tops aside) k (deeds_few k) in
    let b = deeds_few s in
    let p = length-append (top_part (look h.kind tops aside) k (deeds k)) (deeds s) in
    omega arith

defined_most : (o : Option First) (l : Bool) (s : Head) (ds : List First) (on : List First → List Rec) (n : ℕ)
    → ((v : List First) → length (on v) ≤ n) → length (defined o l s ds on) ≤ suc n
defined_most none l s ds on n c = let p = c (record { head = s; loaded = l } ∷ ds) in omega arith
defined_most (some d) l s ds on n c = let p = c ds in omega arith

pick_most : (b : Bool) (x y : List Rec) (n : ℕ) → length x ≤ n → length y ≤ suc n
    → length {A = Rec} (elim b as (λ z. List Rec) [ true ↦ x | false ↦ y ]) ≤ suc n
pick_most true x y n p q = omega arith
pick_most false x y n p q = q

module _ (allowed : Allowance) where
  judge_few : (es : List Deed) (ds : List First) (xs : List ℕ) → length (repeated allowed es ds xs) ≤ length es
  judge_few [] ds xs = omega arith
  judge_few (defines l s ∷ es) ds xs = defined_most (first_of s.spot.value ds) l s ds (λ v. repeated allowed es v xs) (length es)
      (λ v. judge_few es v xs)
  judge_few (repeats s ∷ es) ds xs =
      pick_most (may_repeat allowed (first_of s.spot.value ds) (was_free s.spot.value xs)) (repeated allowed es ds (s.spot.value ∷ xs))
      (defined (first_of s.spot.value ds) false s ds (λ v. repeated allowed es v xs)) (length es) (judge_few es ds (s.spot.value ∷ xs))
      (defined_most (first_of s.spot.value ds) false s ds (λ v. repeated allowed es v xs) (length es) (λ v. judge_few es v xs))

-- INCOMPATIBLE: at most two records a node
pub incompatible_few : (allowed : Allowance) (is-type names-type : ℕ → Bool) (f : Forest) → length (incompatible allowed is-type names-type f) ≤ 2 * nodes f
incompatible_few allowed is-type names-type f =
    let a = each_few (check_at is-type names-type)
    (λ h k. listed_one ((eqb 31 h.kind || eqb 32 h.kind) && type_check is-type names-type k)
    (valued_at 14 h (spot_at 2 k).value)) f in
    let b = judge_few allowed (deeds f) [] [] in
    let c = deeds_few f in
    let e = length-append (each_node (check_at is-type names-type) f) (repeated allowed (deeds f) [] []) in
    omega (arith, a, b, c, e)

-- ---- dubious

clash_one : (l : Likeness) (old s : Head) (on : List Rec) → length on ≤ 1 → length (clash l old s on) ≤ 1
clash_one Different old s on h = h
clash_one SameForm old s on h = omega arith
clash_one SameNumber old s on h = omega arith

module _ (test : ℕ → ℕ → Likeness) where
  against_one : (s : Head) (seen : List Head) → length (against test s seen) ≤ 1
  against_one s [] = omega arith
  against_one s (old ∷ seen) = clash_one (test old.spot.value s.spot.value) old s (against test s seen) (against_one s seen)

  doubles_few : (seen ss : List Head) → length (doubles test seen ss) ≤ length ss
  doubles_few seen [] = omega arith
  doubles_few seen (s ∷ ss) =
      let a = against_one s seen in
      let b = doubles_few (seen_with s seen) ss in
      let e = length-append (against test s seen) (doubles test (seen_with s seen) ss) in
      omega arith

  -- the keys among these, and the records of the dicts in and below them
  dicts_most : (f : Forest) → length (each_node (dict_at test) f) + length (keys f) ≤ nodes f
  dicts_most leaf = omega arith
  dicts_most (node h k s) =
      let a = listed_most (eqb 29 h.kind) (doubles test [] (keys k)) [] in
      let b = doubles_few [] (keys k) in
      let c = dicts_most k in
      let d = dicts_most s in
      let e = length-append (dict_at test h k) (each_node (dict_at test) k ++ each_node (dict_at test) s) in
      let g = length-append (each_node (dict_at test) k) (each_node (dict_at test) s) in
      let i = listed_most (eqb 8 h.role && (eqb 20 h.kind || eqb 21 h.kind)) (h ∷ []) (keys s) in
      omega (arith, a, b, c, d, e, g, i)

  -- DUBIOUS: at most two records a node
  pub dubious_few : (f : Forest) → length (dubious test f) ≤ 2 * nodes f
  dubious_few f =
      let a = dicts_most f in
      let b = each_few idle_at (λ h k. listed_one (eqb 5 h.kind && eqb 20 (kind_among 4 k)) (named_at 17 (head_at 4 k))) f in
      let e = length-append (each_node (dict_at test) f) (each_node idle_at f) in
      omega (arith, a, b, e)

-- ---- of a file's bytes

pub names_list_few : (t : List ℕ) → length (names_list t) ≤ nodes (tree_of t)
unfolding names_list
names_list_few t =
    let ws = names (underscored (table_of t)) (spells (table_of t) fail_name) (globals_of t) (tree_of t) in
    let a = length-map ws (told (met_in t)) in
    let b = names_few (underscored (table_of t)) (spells (table_of t) fail_name) (tree_of t) (globals_of t) in
    omega (arith, a, b)

pub flow_list_few : (t : List ℕ) → length (flow_list t) ≤ 5 * nodes (tree_of t)
unfolding flow_list
flow_list_few t = flow_few (spells (table_of t) fail_name) (spells (table_of t) none_name) (a_string (table_of t)) (tree_of t)

pub incompatible_list_few : (t : List ℕ) → length (incompatible_list t) ≤ 2 * nodes (tree_of t)
unfolding incompatible_list
incompatible_list_few t = incompatible_few (allowance (version_of t)) (spells (table_of t) type_name) (spells_one (table_of t) five_types) (tree_of t)

pub dubious_list_few : (mode : Mode) (t : List ℕ) → length (dubious_list mode t) ≤ 2 * nodes (tree_of t)
unfolding dubious_list
dubious_list_few mode t = dubious_few (λ a b. like mode (at (table_of t) a) (at (table_of t) b)) (tree_of t)

-- THE JOINED LIST: at most ten records a node
pub lint_few : (mode : Mode) (t : List ℕ) → length (lint_list mode t) ≤ 10 * nodes (tree_of t)
unfolding lint_list
lint_few mode t =
    let a = names_list_few t in
    let b = flow_list_few t in
    let c = incompatible_list_few t in
    let d = dubious_list_few mode t in
    let p = length-append (names_list t) (flow_list t ++ (incompatible_list t ++ dubious_list mode t)) in
    let q = length-append (flow_list t) (incompatible_list t ++ dubious_list mode t) in
    let r = length-append (incompatible_list t) (dubious_list mode t) in
    omega (arith, a, b, c, d, p, q, r)
