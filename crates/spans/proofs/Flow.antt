-- Flow's records, 7 to 13, are made of the tree's nodes. Assumes nothing.
use Prim.Native.Nat.{ℕ}
use mathlib.Core.Bool.{Bool, true, false, cond, ◌&&◌, not}
use mathlib.Core.List.{List, [], ◌∷◌, ◌++◌}
use mathlib.Core.Option.{Option, none, some}
use lib.Dec.{eqb}
use Rattle.tree.specs.Forest.{Spot, Head, Forest, Forest.none as leaf, node}
use Rattle.rules.specs.Record.{Rec, no_number, plainly, or_else, Each}
use Rattle.rules.specs.Visit.{has, head_at, spot_at, last_of}
use Rattle.rules.specs.Flow.{Return, Which, everything, the_body, the_rest, wanted, returns_part, returns, first_valued, type_reason, reason, ends, missing, missing_expression, bare_recs, check_for, check, returns_walk, Reached, Course, in_list, one_by_one, only, after_stop, reached_part, reached, tail_part, tail, redundant_part, redundant_walk, below_root, Loads, loads_part, loads, effect, effect_part, effect_walk, flow}
use Rattle.rules.proofs.Each.{IfSome, either, either_if, join, listed_each}
use Rattle.spans.proofs.Made.{Throughout, Late, one, two, three, place, each_late}

module _ (P : Head → Type 0) where
  -- ---- returns: 8 and 7

  abbrev Returned : Return → Type 0
  Returned r = P r.head

  returns_held : (f : Forest) → Throughout P f → (w : Which) → Each Returned (returns w f)
  returns_held leaf o w = tt
  returns_held (node h k s) o w =
      listed_each Returned (wanted w h.role) (returns_part h.kind h k (λ v. returns v k)) (returns w s)
      (either (Each Returned) (eqb h.kind 4) _ _ (o.0.0, returns_held k o.1.0 everything)
      (either (Each Returned) (eqb h.kind 12) _ _ (returns_held k o.1.0 the_rest) (returns_held k o.1.0 everything)))
      (returns_held s o.1.1 w)

  valued_held : (rs : List Return) → Each Returned rs → IfSome P (first_valued rs)
  valued_held [] p = tt
  valued_held (r ∷ rs) p = either (IfSome P) r.valued (some r.head) (first_valued rs) p.0 (valued_held rs p.1)

  or_held : (a b : Option Head) → IfSome P a → IfSome P b → IfSome P (or_else a b)
  or_held none b p q = q
  or_held (some a) b p q = p

  unless_held : (b : Bool) (h : Head) → P h → IfSome P (cond b none (some h))
  unless_held true h p = tt
  unless_held false h p = p

  bare_late : (h : Head) (name : Spot) (why : Head) (rs : List Return) → P h → P why → Each Returned rs
      → Each (Late P) (bare_recs h name why rs)
  bare_late h name why [] a b c = tt
  bare_late h name why (r ∷ rs) a b c =
      listed_each (Late P) (not r.valued) (missing_expression h name why r.head ∷ []) (bare_recs h name why rs)
      (three 7 r.head name.value h why tt c.0 a b, tt) (bare_late h name why rs a b c.1)

  module _ (is_fail is_none : ℕ → Bool) where
    type_held : (k : Forest) → Throughout P k → IfSome P (type_reason is_none k)
    type_held leaf o = tt
    type_held (node h k s) o =
        either (IfSome P) (eqb 3 h.role) (cond (eqb 20 h.kind && is_none h.spot.value) none (some h))
        (type_reason is_none s) (unless_held (eqb 20 h.kind && is_none h.spot.value) h o.0.0) (type_held s o.1.1)

    reason_held : (k : Forest) → Throughout P k → IfSome P (reason is_none k)
    reason_held k o =
        or_held (type_reason is_none k) (first_valued (returns the_body k)) (type_held k o)
        (valued_held (returns the_body k) (returns_held k o the_body))

    check_for_late : (h : Head) (k : Forest) (w : Option Head) → P h → Throughout P k → IfSome P w
        → Each (Late P) (check_for is_fail is_none h k w)
    check_for_late h k none a o p = tt
    check_for_late h k (some why) a o p =
        listed_each (Late P) (not (ends is_fail 1 k)) (missing h (spot_at 6 k) why ∷ []) (bare_recs h (spot_at 6 k) why (returns the_body k))
        (two 8 h (spot_at 6 k).value why tt a p, tt) (bare_late h (spot_at 6 k) why (returns the_body k) a p (returns_held k o the_body))

    returns_late : (f : Forest) → Throughout P f → Each (Late P) (returns_walk is_fail is_none f)
    returns_late f o =
        each_late P (λ h k. check is_fail is_none h.kind h k)
        (λ h k a b. either (Each (Late P)) (eqb h.kind 12) _ _ (check_for_late h k (reason is_none k) a b (reason_held k b)) tt) f o

  -- ---- reachable: 9

  after_late : (s : Forest) → Throughout P s → Each (Late P) (after_stop s)
  after_late leaf o = tt
  after_late (node h k s) o = (one 9 h no_number tt o.0.0, tt)

  abbrev Reports : Reached → Type 0
  Reports r = Each (Late P) r.recs

  module _ (is_fail : ℕ → Bool) where
    part_reports : (z : ℕ) (k : Forest) → ((m : Course) → Reports (reached is_fail m k))
        → Reports (reached_part is_fail z k (λ v. reached is_fail v k))
    part_reports z k c =
        either Reports (eqb z 1) _ _ tt (either Reports (eqb z 2) _ _ tt (either Reports (eqb z 4) _ _ tt (either Reports (eqb z 5) _ _ tt
        (either Reports (eqb z 8) _ _ (c in_list) (either Reports (eqb z 10) _ _
        (join (Late P) (reached is_fail (only 1) k).recs (reached is_fail (only 2) k).recs (c (only 1)) (c (only 2))) (c one_by_one))))))

    reach_late : (f : Forest) → Throughout P f → (m : Course) → Reports (reached is_fail m f)
    reach_late leaf o m = tt
    reach_late (node h k s) o in_list =
        let a = reached_part is_fail h.kind k (λ v. reached is_fail v k) in
        let b = reached is_fail in_list s in
        let p : Reports a = part_reports h.kind k (reach_late k o.1.0) in
        either Reports a.stops (record { stops = true; recs = a.recs ++ after_stop s })
        (record { stops = b.stops; recs = a.recs ++ b.recs })
        (join (Late P) a.recs (after_stop s) p (after_late s o.1.1))
        (join (Late P) a.recs b.recs p (reach_late s o.1.1 in_list))
    reach_late (node h k s) o one_by_one =
        join (Late P) (reached_part is_fail h.kind k (λ v. reached is_fail v k)).recs (reached is_fail one_by_one s).recs
        (part_reports h.kind k (reach_late k o.1.0)) (reach_late s o.1.1 one_by_one)
    reach_late (node h k s) o (only r) =
        either Reports (eqb r h.role) (reached_part is_fail h.kind k (λ v. reached is_fail v k)) (reached is_fail (only r) s)
        (part_reports h.kind k (reach_late k o.1.0)) (reach_late s o.1.1 (only r))

  -- ---- redundant: 10 and 11

  last_late : (b m : Bool) (here on : List Rec) → Each (Late P) here → Each (Late P) on → Each (Late P) (last_of b m here on)
  last_late false m here on p q = q
  last_late true true here on p q = q
  last_late true false here on p q = p

  tail_late : (f : Forest) → Throughout P f → (l : Bool) (r : ℕ) → Each (Late P) (tail l r f)
  tail_late leaf o l r = tt
  tail_late (node h k s) o l r =
      let c : (v : ℕ) → Each (Late P) (tail l v k) = tail_late k o.1.0 l in
      last_late (eqb r h.role) (has r s) (tail_part h.kind l h k (λ v. tail l v k)) (tail l r s)
      (either (Each (Late P)) (eqb h.kind 2) _ _
      (listed_each (Late P) l (plainly 11 h ∷ []) [] (one 11 h no_number tt o.0.0, tt) tt)
      (either (Each (Late P)) (eqb h.kind 4) _ _
      (listed_each (Late P) (not l && not (has 4 k)) (plainly 10 h ∷ []) [] (one 10 h no_number tt o.0.0, tt) tt)
      (either (Each (Late P)) (eqb h.kind 8) _ _ (c 0) (either (Each (Late P)) (eqb h.kind 9) _ _ (c 1)
      (either (Each (Late P)) (eqb h.kind 10) _ _ (join (Late P) (tail l 1 k) (tail l 2 k) (c 1) (c 2)) tt)))))
      (tail_late s o.1.1 l r)

  redundant_late : (f : Forest) → Throughout P f → Each (Late P) (redundant_walk f)
  redundant_late f o =
      each_late P (λ h k. redundant_part h.kind k)
      (λ h k a b. either (Each (Late P)) (eqb h.kind 11) _ _ (tail_late k b true 1)
      (either (Each (Late P)) (eqb h.kind 12) _ _ (tail_late k b false 1) tt)) f o

  below_held : (f : Forest) → Throughout P f → Throughout P (below_root f)
  below_held leaf o = tt
  below_held (node h k s) o = o.1.0

  -- ---- loads: 12; effect: 13

  abbrev Loaded : Loads → Type 0
  Loaded l = Each (Late P) l.recs

  module _ (is-string : ℕ → Bool) where
    loads_late : (f : Forest) → Throughout P f → (may : Bool) → Loaded (loads is-string may f)
    loads_late leaf o may = tt
    loads_late (node h k s) o may =
        let a = loads_part is-string h.kind may h k (λ v. loads is-string v k) in
        join (Late P) a.recs (loads is-string a.may s).recs
        (either Loaded (eqb h.kind 5) _ _ tt (either Loaded (eqb h.kind 8) _ _ (loads_late k o.1.0 may)
        (either Loaded (eqb h.kind 13) _ _ (listed_each (Late P) (not may) (plainly 12 h ∷ []) [] (one 12 h no_number tt o.0.0, tt) tt)
        tt)))
        (loads_late s o.1.1 a.may)

    effect_late : (f : Forest) → Throughout P f → Each (Late P) (effect_walk is-string f)
    effect_late leaf o = tt
    effect_late (node h k s) o =
        join (Late P) (effect_part is-string h.kind k (effect_walk is-string k)) (effect_walk is-string s)
        (either_if (Each (Late P)) (eqb h.kind 5) _ _
        (λ t. listed_each (Late P) (not (effect is-string k)) (plainly 13 (head_at 4 k) ∷ []) []
        (one 13 (head_at 4 k) no_number tt (place P k o.1.0 4 (o.0.1 t)), tt) tt)
        (effect_late k o.1.0))
        (effect_late s o.1.1)

  -- FLOW
  pub flow_late : (is_fail is_none is-string : ℕ → Bool) (f : Forest) → Throughout P f → Each (Late P) (flow is_fail is_none is-string f)
  flow_late is_fail is_none is-string f o =
      let a = returns_walk is_fail is_none f in
      let b = (reached is_fail (only 0) f).recs in
      let c = redundant_walk (below_root f) in
      let d = (loads is-string true f).recs in
      let e = effect_walk is-string f in
      join (Late P) a (b ++ (c ++ (d ++ e))) (returns_late is_fail is_none f o)
      (join (Late P) b (c ++ (d ++ e)) (reach_late is_fail f o (only 0))
      (join (Late P) c (d ++ e) (redundant_late (below_root f) (below_held f o))
      (join (Late P) d e (loads_late is-string f o true) (effect_late is-string f o))))
