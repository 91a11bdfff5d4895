-- Names' records, 1 to 6, are made of the tree's nodes. Assumes nothing.
use Prim.Native.Nat.{ℕ}
use mathlib.Core.Path.{subst}
use mathlib.Core.List.{List, [], ◌∷◌, ◌++◌, map}
use lib.Dec.{T}
use Rattle.tree.specs.Forest.{Head, Forest, Forest.none as leaf, node, tree_of}
use Rattle.tree.specs.Table.{table_of, spells, underscored, globals_of}
use Rattle.rules.specs.Record.{no_span, no_number, Each}
use Rattle.rules.specs.Order.{Sort, of_role, body, fail_name}
use Rattle.rules.specs.Names.{Warning, unused, names, met, told, met_in, names_list}
use Rattle.rules.specs.Meeting.{is_met}
use Rattle.rules.proofs.Meets.{Within, takes_met}
use Rattle.rules.proofs.FirstMet.{first_is, warned_met}
use Rattle.rules.proofs.Coded.{names_codes}
use Rattle.rules.proofs.Each.{each_right}
use Rattle.spans.proofs.Made.{Throughout, early, Made, name}

unused_early : (o : Sort) → T (early (unused o))
unused_early Sort.load = tt
unused_early Sort.assign = tt
unused_early Sort.argument = tt

-- ---- the node of a warning

module _ (P : Head → Type 0) where
  within_held : (f : Forest) → Throughout P f → Within P f
  within_held leaf o = tt
  within_held (node h k s) o = (((λ t. o.0.0), (λ t. o.0.0)), (within_held k o.1.0, within_held s o.1.1))

  told_made : (hs : List Head) → Each P hs → (w : Warning) → T (early w.code) → T (is_met hs w.spot) → Made P (told hs w)
  told_made hs p w c t =
      let m = first_is w.spot hs t in
      let q : Each P (m.before ++ (m.it ∷ m.after)) = subst (Each P) m.there p in
      subst (Made P)
      (λ i. record { code = w.code; spot = m.pair i; second = no_span; third = no_span; number = m.numbered i; number2 = no_number })
      (name w.code m.it c (each_right P m.before (m.it ∷ m.after) q).0)

  all_made : (hs : List Head) → Each P hs → (ws : List Warning) → Each (λ w. T (early w.code)) ws → Each (λ w. T (is_met hs w.spot)) ws
      → Each (Made P) (map (told hs) ws)
  all_made hs p [] c t = tt
  all_made hs p (w ∷ ws) c t = (told_made hs p w c.0 t.0, all_made hs p ws c.1 t.1)

  -- NAMES
  pub names_made : (t : List ℕ) → Throughout P (tree_of t) → Each (Made P) (names_list t)
  unfolding names_list met_in
  names_made t o =
      let fails = spells (table_of t) fail_name in
      all_made (met (body fails (tree_of t))) (takes_met P fails (tree_of t) (within_held (tree_of t) o) (of_role 0))
      (names (underscored (table_of t)) fails (globals_of t) (tree_of t)) (names_codes (λ c. T (early c)) unused_early tt tt tt (underscored (table_of t)) fails (globals_of t) (tree_of t))
      (warned_met (underscored (table_of t)) fails (globals_of t) (tree_of t))
