-- 02, §13, "More known names": with the same nodes and values and with globals given twice, the second containing the first, the
-- second list is the first without the code 5 records whose name the second holds. Assumes nothing.
use Rattle.std.specs.Prelude.{Ok}
use Prim.Native.Nat.{ℕ}
use mathlib.Core.Path.{◌≡◌, refl, sym, ap, ap₂, subst, ◌∙◌}
use mathlib.Core.Bool.{Bool, true, false, not, ◌&&◌, ◌||◌}
use mathlib.Core.List.{List, [], ◌∷◌, ◌++◌, map, append-nil}
use mathlib.Core.Option.{Option, none, some}
use lib.Dec.{eqb, T}
use Rattle.tree.specs.Bytes.{global_count}
use Rattle.tree.specs.Forest.{Spot, Head, tree_of}
use Rattle.tree.specs.Table.{table_of, spells, underscored, is_global, globals_of}
use Rattle.tree.specs.Releases.{SameScript, MoreKnown}
use Rattle.tree.specs.Judge.{judged}
use Rattle.tree.specs.declared.Facts.{Facts}
use Rattle.tree.specs.declared.Mode.{Mode}
use Rattle.tree.proofs.Search.{clash}
use Rattle.tree.proofs.Releases.{same_table, same_tree, given_globals, ungiven_globals}
use Rattle.rules.specs.Record.{Rec, keep, Each}
use Rattle.rules.specs.Order.{Sort, Cmd, fail_name, body}
use Rattle.rules.specs.Names.{same, Scope, Warning, warned, warn_new, warn_if, warn_all, passed, unused, farewell, undefined, names_of, told, met_in, names_list}
use Rattle.rules.specs.Flow.{flow_list}
use Rattle.rules.specs.Incompatible.{incompatible_list}
use Rattle.rules.specs.Dubious.{dubious_list}
use Rattle.rules.specs.Releases.{held, QuietedBy, Without5}
use Rattle.rules.proofs.Spots.{same_sound}
use Rattle.rules.proofs.Each.{each_more}
use Rattle.rules.proofs.Coded as Coded
use Rattle.rules.proofs.Lists.{keep_so, keep_not, keep_each, keep_append, keep_map, keep_both}

-- ---- names: the warnings of a command, with these globals and with those

-- a code but 5
abbrev Not5 : ℕ → Type 0
Not5 c = eqb c 5 ≡ false

unused_not_5 : (o : Sort) → Not5 (unused o)
unused_not_5 Sort.load = refl
unused_not_5 Sort.assign = refl
unused_not_5 Sort.argument = refl

no_five : (w : Warning) (b : Bool) → eqb w.code 5 ≡ false → not (eqb w.code 5 && b) ≡ true
no_five w b e = ap (λ (c : Bool). not (c && b)) e

-- a warning that is left out may be there or not
new_left : (p : Warning → Bool) (s : Spot) (ws : List Warning) → p (record { code = 5; spot = s }) ≡ false → (b : Bool)
    → keep p (warn_new 5 s ws b) ≡ keep p ws
new_left p s ws e true = refl
new_left p s ws e false =
    keep_append p ws (record { code = 5; spot = s } ∷ [])
    ∙ ap (λ (l : List Warning). keep p ws ++ l) (keep_not p (record { code = 5; spot = s }) [] e) ∙ append-nil (keep p ws)

module _ (given known : ℕ → Bool) (more : (v : ℕ) → given v ≡ true → known v ≡ true) where
  -- a warning that the second list has too
  abbrev stays : Warning → Bool
  stays w = not (eqb w.code 5 && known w.spot.value)

  -- "Each pair (span, name) is warned once": whether a spot was warned whose name isn't known, those that go don't change
  warned_kept : (s : Spot) → known s.value ≡ false → (ws : List Warning) → warned s (keep stays ws) ≡ warned s ws
  warned_kept s e [] = refl
  warned_kept s e (w ∷ ws) = go (stays w) refl (same s w.spot) refl (warned_kept s e ws)
    where
      earlier : stays w ≡ false → same s w.spot ≡ true → warned s (keep stays ws) ≡ true
      earlier q r =
          let h : s ≡ w.spot = same_sound s w.spot (subst T (sym r) tt) in
          let k : known w.spot.value ≡ false = ap (λ (x : Spot). known x.value) (sym h) ∙ e in
          clash (ap (λ (b : Bool). not (eqb w.code 5 && b)) k ∙ and_not (eqb w.code 5)) q
        where
          and_not : (b : Bool) → not (b && false) ≡ true
          and_not true = refl
          and_not false = refl

      go : (a : Bool) → stays w ≡ a → (b : Bool) → same s w.spot ≡ b → warned s (keep stays ws) ≡ warned s ws
          → warned s (keep stays (w ∷ ws)) ≡ (same s w.spot || warned s ws)
      go true q b r h = ap (warned s) (keep_so stays w ws q) ∙ ap (λ (b : Bool). same s w.spot || b) h
      go false q true r h = ap (warned s) (keep_not stays w ws q) ∙ earlier q r ∙ ap (λ (b : Bool). b || warned s ws) (sym r)
      go false q false r h = ap (warned s) (keep_not stays w ws q) ∙ h ∙ ap (λ (b : Bool). b || warned s ws) (sym r)

  -- one use that nothing sets
  module _ (s : Spot) (ws : List Warning) where
    abbrev here : Warning
    here = record { code = 5; spot = s }

    new_unknown : known s.value ≡ false → (b : Bool) → keep stays (warn_new 5 s ws b) ≡ warn_new 5 s (keep stays ws) b
    new_unknown e true = refl
    new_unknown e false = keep_append stays ws (here ∷ []) ∙ ap (λ (l : List Warning). keep stays ws ++ l) (keep_so stays here [] (ap not e))

    step : (a : Bool) → given s.value ≡ a → (b : Bool) → known s.value ≡ b
        → keep stays (warn_if (not a) 5 s ws) ≡ warn_if (not b) 5 s (keep stays ws)
    step true p true q = refl
    step true p false q = clash (more s.value p) q
    step false p true q = new_left stays s ws (ap not q) (warned s ws)
    step false p false q = new_unknown q (warned s ws) ∙ ap (warn_new 5 s (keep stays ws)) (sym (warned_kept s q ws))

  all_steps : (ss : List Spot) (ws : List Warning)
      → keep stays (warn_all 5 (λ s. not (given s.value)) ss ws) ≡ warn_all 5 (λ s. not (known s.value)) ss (keep stays ws)
  all_steps [] ws = refl
  all_steps (s ∷ ss) ws =
      all_steps ss (warn_if (not (given s.value)) 5 s ws)
      ∙ ap (warn_all 5 (λ s. not (known s.value)) ss) (step s ws (given s.value) refl (known s.value) refl)

  -- the globals are asked after all else, and no warning before that has code 5
  undefined_quieted : (c : Scope) (ws : List Warning) → Each (λ w. Not5 w.code) ws
      → undefined (some known) c ws ≡ keep stays (undefined (some given) c ws)
  undefined_quieted c ws h =
      ap (warn_all 5 (λ s. not (known s.value)) (passed c)) (sym (keep_each stays ws (each_more _ _ (λ w e. no_five w (known w.spot.value) e) ws h)))
      ∙ sym (all_steps (passed c) ws)

  -- NAMES: of the warnings with the first globals those stay
  warnings_quieted : (u : ℕ → Bool) (c : Cmd) → names_of u (some known) c ≡ keep stays (names_of u (some given) c)
  warnings_quieted u c =
      let st = Coded.after Not5 unused_not_5 refl refl u c in
      undefined_quieted st.here (farewell u true st.here st.out) (Coded.set_codes Not5 unused_not_5 refl refl u c)

-- ---- names: with no globals given, and with any or none

abbrev not_5 : Warning → Bool
not_5 w = not (eqb w.code 5)

fives_left : (p : Spot → Bool) (ss : List Spot) (ws : List Warning) → keep not_5 (warn_all 5 p ss ws) ≡ keep not_5 ws
fives_left p [] ws = refl
fives_left p (s ∷ ss) ws = fives_left p ss (warn_if (p s) 5 s ws) ∙ one (p s)
  where
    one : (b : Bool) → keep not_5 (warn_if b 5 s ws) ≡ keep not_5 ws
    one true = new_left not_5 s ws refl (warned s ws)
    one false = refl

undefined_left : (g : Option (ℕ → Bool)) (c : Scope) (ws : List Warning) → Each (λ w. Not5 w.code) ws → keep not_5 (undefined g c ws) ≡ ws
undefined_left g c ws h = go g ∙ keep_each not_5 ws (each_more _ _ (λ w e. ap not e) ws h)
  where
    go : (g : Option (ℕ → Bool)) → keep not_5 (undefined g c ws) ≡ keep not_5 ws
    go none = refl
    go (some given) = fives_left (λ s. not (given s.value)) (passed c) ws

warnings_ungiven : (u : ℕ → Bool) (g : Option (ℕ → Bool)) (c : Cmd) → names_of u none c ≡ keep not_5 (names_of u g c)
warnings_ungiven u g c =
    let st = Coded.after Not5 unused_not_5 refl refl u c in
    sym (undefined_left g st.here (farewell u true st.here st.out) (Coded.set_codes Not5 unused_not_5 refl refl u c))

-- ---- lists

module _ (u : List ℕ) where
  abbrev pub not_held : Rec → Bool
  not_held r = not (held u r)

  -- a list without code 5 is quieted to itself
  pub quieted_same : (rs : List Rec) → Each (λ r. eqb r.code 5 ≡ false) rs → QuietedBy u rs rs
  quieted_same rs h =
      sym (keep_each not_held rs (each_more _ _ (λ r e. ap (λ (b : Bool). not (b && is_global u r.spot.value)) e) rs h))

  -- .. and two lists, one after the other, each for itself
  pub quieted_append : (rs rs' qs qs' : List Rec) → QuietedBy u rs qs → QuietedBy u rs' qs' → QuietedBy u (rs ++ rs') (qs ++ qs')
  quieted_append rs rs' qs qs' e f = ap₂ (λ (a b : List Rec). a ++ b) e f ∙ sym (keep_append not_held rs rs')

  -- .. and what is kept of a list
  pub quieted_keep : (p : Rec → Bool) (rs qs : List Rec) → QuietedBy u rs qs → QuietedBy u (keep p rs) (keep p qs)
  quieted_keep p rs qs e = ap (keep p) e ∙ keep_both p not_held rs

-- ---- files

module _ (t u : List ℕ) (s : SameScript t u) (f : Facts) (v : judged t ≡ Ok f) where
  pub same_flow : flow_list u ≡ flow_list t
  unfolding flow_list
  same_flow = rw (same_table t u s, same_tree t u s f v)

  pub same_incompatible : incompatible_list u ≡ incompatible_list t
  unfolding incompatible_list
  same_incompatible = rw (same_table t u s, same_tree t u s f v, s.version)

  pub same_dubious : (mode : Mode) → dubious_list mode u ≡ dubious_list mode t
  unfolding dubious_list
  same_dubious mode = rw (same_table t u s, same_tree t u s f v)

  same_met : met_in t ≡ met_in u
  unfolding met_in
  same_met = rw (same_table t u s, same_tree t u s f v)

  -- no globals given in the first: THE NAMES LIST has all but 5
  pub ungiven_names : global_count t ≡ 65535 → Without5 (names_list t) (names_list u)
  unfolding names_list
  ungiven_names e =
      let hs : List Head = met_in u in
      let c : Cmd = body (spells (table_of u) fail_name) (tree_of u) in
      rw (same_met, same_table t u s, same_tree t u s f v, ungiven_globals t e)
      (ap (map (told hs)) (warnings_ungiven (underscored (table_of u)) (globals_of u) c)
      ∙ sym (keep_map (λ r. not (eqb r.code 5)) (told hs) (names_of (underscored (table_of u)) (globals_of u) c)))

  pub ungiven_with : global_count t ≡ 65535 → (rs qs : List Rec) → qs ≡ rs → Each (λ r. eqb r.code 5 ≡ false) rs
      → Without5 (names_list t ++ rs) (names_list u ++ qs)
  ungiven_with e rs qs q h =
      ap₂ (λ (a b : List Rec). a ++ b) (ungiven_names e)
      (sym (ap (keep (λ r. not (eqb r.code 5))) q ∙ keep_each (λ r. not (eqb r.code 5)) rs (each_more _ _ (λ r k. ap not k) rs h)))
      ∙ sym (keep_append (λ r. not (eqb r.code 5)) (names_list u) qs)

module _ (t u : List ℕ) (m : MoreKnown t u) (f : Facts) (v : judged t ≡ Ok f) where
  -- THE NAMES LIST
  pub quieted_names : QuietedBy u (names_list t) (names_list u)
  unfolding names_list
  quieted_names =
      let hs : List Head = met_in u in
      let c : Cmd = body (spells (table_of u) fail_name) (tree_of u) in
      rw (same_met t u m.script f v, same_table t u m.script, same_tree t u m.script f v, given_globals t m.first_given, given_globals u m.second_given)
      (ap (map (told hs)) (warnings_quieted (is_global t) (is_global u) m.contains (underscored (table_of u)) c)
      ∙ sym (keep_map (λ r. not (held u r)) (told hs) (names_of (underscored (table_of u)) (some (is_global t)) c)))

  -- .. with the same list without code 5 after it, whatever that is: so a joined list of any passes
  pub quieted_with : (rs qs : List Rec) → qs ≡ rs → Each (λ r. eqb r.code 5 ≡ false) rs → QuietedBy u (names_list t ++ rs) (names_list u ++ qs)
  quieted_with rs qs e h = quieted_append u (names_list t) rs (names_list u) qs quieted_names (e ∙ quieted_same u rs h)
