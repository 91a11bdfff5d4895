-- Demand 3, proved.
use Prim.Native.Nat.{ℕ}
use mathlib.Core.Path.{◌≡◌, sym, subst}
use mathlib.Core.Bool.{Bool, ◌&&◌}
use mathlib.Core.List.Memᴰ
use mathlib.Core.List.{List, [], ◌∷◌, map}
use mathlib.Core.Logic.{◌⊎◌, inl, inr}
use mathlib.Core.Option.{Option}
use lib.Dec.{eqb, T, eqb→eq}
use Rattle.tree.specs.Forest.{Spot, Head, Forest, tree_of}
use Rattle.tree.specs.Table.{table_of, spells, underscored, a_string, globals_of}
use Rattle.rules.specs.Record.{Rec, named_at, Each}
use Rattle.rules.specs.Order.{Cmd, body, fail_name}
use Rattle.rules.specs.Names.{same, Warning, names, met, first_met, told, met_in, names_list}
use Rattle.rules.specs.Meeting.{is_met}
use Rattle.rules.specs.Flow.{flow, none_name, flow_list}
use Rattle.tree.specs.code.Shape.{valid}
use Rattle.rules.specs.Premises.{Premises, names_apart}
use Rattle.rules.specs.Runs.{Body, nobody, Reach, own}
use Rattle.rules.specs.Letter.{Told, Demand3, Demand3Of}
use Rattle.rules.proofs.Bools.{or_cases, and_left, and_right}
use Rattle.rules.proofs.Spots.{same_sound}
use Rattle.rules.proofs.Flag.{good, four_six}
use Rattle.rules.proofs.FlowSound.{end_flagged, bare_flagged}
use Rattle.rules.proofs.Valid.{names_demand}
use Rattle.rules.proofs.FirstMet.{warned_met, itself, reached_holder}

-- A list that has the spot of g under 4 or 6, of which the nodes met hs have g first, has the one or the other record.
module _ (hs : List Head) (g : Head) (e : first_met g.spot hs ≡ g.number) where
  told_on : (w : Warning) (ws : List Warning) → Told g (map (told hs) ws) → Told g (map (told hs) (w ∷ ws))
  told_on w ws (inl m) = inl (Memᴰ.tail m)
  told_on w ws (inr m) = inr (Memᴰ.tail m)

  as_told : (c : ℕ) (w : Warning) → g.spot ≡ w.spot → w.code ≡ c → named_at c g ≡ told hs w
  as_told c w p q = rw (← p, q, e)

  told_now : (w : Warning) (ws : List Warning) → g.spot ≡ w.spot → T (eqb w.code 4) ⊎ T (eqb w.code 6) → Told g (map (told hs) (w ∷ ws))
  told_now w ws p (inl t) = inl (Memᴰ.head (as_told 4 w p (eqb→eq w.code 4 t)))
  told_now w ws p (inr t) = inr (Memᴰ.head (as_told 6 w p (eqb→eq w.code 6 t)))

  told_in : (ws : List Warning) → T (good g.spot ws) → Told g (map (told hs) ws)
  told_in [] t = absurd t
  told_in (w ∷ ws) t = go (or_cases (same g.spot w.spot && four_six w.code) (good g.spot ws) t) (told_in ws)
    where
      go : T (same g.spot w.spot && four_six w.code) ⊎ T (good g.spot ws) → (T (good g.spot ws) → Told g (map (told hs) ws))
          → Told g (map (told hs) (w ∷ ws))
      go (inl u) f = told_now w ws (same_sound g.spot w.spot (and_left (same g.spot w.spot) (four_six w.code) u))
          (or_cases (eqb w.code 4) (eqb w.code 6) (and_right (same g.spot w.spot) (four_six w.code) u))
      go (inr u) f = told_on w ws (f u)

-- a spot under 4 or 6 is one of the spots warned
good_met : (p : Spot → Bool) (s : Spot) (ws : List Warning) → Each (λ w. T (p w.spot)) ws → T (good s ws) → T (p s)
good_met p s [] h t = absurd t
good_met p s (w ∷ ws) h t = go (or_cases (same s w.spot && four_six w.code) (good s ws) t) (good_met p s ws h.1)
  where
    go : T (same s w.spot && four_six w.code) ⊎ T (good s ws) → (T (good s ws) → T (p s)) → T (p s)
    go (inl u) f = subst (λ (x : Spot). T (p x)) (sym (same_sound s w.spot (and_left (same s w.spot) (four_six w.code) u))) h.0
    go (inr u) f = f u

module _ (is_fail underscore is_none is-string : ℕ → Bool) (globals : Option (ℕ → Bool)) (f : Forest) where
  abbrev names_recs : List Rec
  names_recs = map (told (met (body is_fail f))) (names underscore is_fail globals f)

  in_names : T (valid f) → T (names_apart f) → {b : Cmd} → Body is_fail f b → (g : Head) → T (own g.spot.value b) → Reach g b nobody
      → Told g names_recs
  in_names v u b g w r =
      let t = names_demand is_fail underscore globals f v u b g r w in
      let ws = names underscore is_fail globals f in
      let m = good_met (is_met (met (body is_fail f))) g.spot ws (warned_met underscore is_fail globals f) t in
      told_in (met (body is_fail f)) g (itself is_fail f u g (reached_holder is_fail f b r) m) ws t

  -- More than the letter asks: of breaks and continues nothing is needed.
  -- (One that stands in no loop of its body ends the body's run, by neither its end nor a return.)
  pub demand3_more : T (valid f) → T (names_apart f) → Demand3 is_fail is_none f names_recs (flow is_fail is_none is-string f)
  demand3_more v u = record {
    unset = λ b g w r. in_names v u b g w r;
    end = λ {h} {k} {why} {τ} d r. end_flagged is_fail is_none is-string f h k why τ d.there d.def d.wants r;
    bare_return = λ {h} {k} {why} {g} {τ} d r. bare_flagged is_fail is_none is-string f h k why g τ d.there d.def d.wants r;
  }

  pub demand3 : T (valid f) → Premises f → Demand3 is_fail is_none f names_recs (flow is_fail is_none is-string f)
  demand3 v p = demand3_more v p.unlike

-- DEMAND 3, of a file's bytes
pub demand3_of : (t : List ℕ) → T (valid (tree_of t)) → Premises (tree_of t) → Demand3Of t
unfolding met_in names_list flow_list
demand3_of t v p =
    demand3 (spells (table_of t) fail_name) (underscored (table_of t)) (spells (table_of t) none_name) (a_string (table_of t)) (globals_of t)
    (tree_of t) v p
