-- 14: what each step and return of the walk shows. Assumes nothing.
use Rattle.std.specs.Prelude.{Option, None, Some, is_some, not}
use Prim.Native.Nat.{ℕ, suc, ◌+◌, ◌≤◌, ◌<◌}
use native.Mathlib.Omega.{arith}
use mathlib.Core.Path.{◌≡◌, refl, sym, ap, ◌∙◌}
use mathlib.Core.List.{List, [], ◌∷◌}
use mathlib.Core.Bool.{Bool, true, false, ◌&&◌, ◌||◌}
use lib.Dec.{eqb}
use borrow.Author.Tests.{eq-eqb, ne_eqb}
use Rattle.tree.specs.Bytes.{kind_at, role_at, size_at, value_at}
use Rattle.tree.specs.Forest.{Forest, none, node, node_spot, node_head, forest_of}
use Rattle.tree.specs.code.Part.{Part}
use Rattle.tree.specs.code.Find.{child_of, first_child, from_role}
use Rattle.tree.proofs.FirstChild.{child_some, child_none as no_child}
use Rattle.tree.proofs.Laws.{sized, ended, kids, rest}
use Rattle.tree.proofs.Find.{child_node, child_none, child_role, child_part}
use Rattle.rules.specs.Record.{Rec, valued_at}
use Rattle.rules.specs.Visit.{head_at, spot_at, kind_among, under, how_many}
use Rattle.rules.specs.Incompatible.{identifier, type_check, check_at}
use Rattle.answer.proofs.Bits.{and_false}
use Rattle.answer.proofs.ByRole.{head_there, kind_there, kind_absent, place_there, under_there}
use Rattle.incompatible.specs.declared.types.Types.{Types}
use Rattle.incompatible.specs.Five.{is, five, type_call}

pub not_eqb : {a b : ℕ} → (a ≡ b → ⊥) → eqb b a ≡ false
not_eqb {a} {b} h = ne_eqb b a (λ z. h (sym z))

-- ---- the first child of a role, at c, or none

module _ (r : ℕ) {t : List ℕ} {i e : ℕ} (part : Part t i e) (le : i ≤ e) where
  tally_from : (f : Forest) → how_many r f ≡ how_many r (from_role r f)
  unfolding from_role
  tally_from none = refl
  tally_from (node h k s) = go (eqb r h.role) refl (tally_from s)
    where
      go : (b : Bool) → eqb r h.role ≡ b → how_many r s ≡ how_many r (from_role r s)
          → how_many r (node h k s) ≡ how_many r (elim b [ true ↦ node h k s | false ↦ from_role r s ])
      go true z f = refl
      go false z f = rw (z, how_many) f

  module _ (absent : ◌≡◌ {A = Option ℕ} None (first_child t r i e)) where
    pub kind_missing : kind_among r (forest_of t i e) ≡ 0
    kind_missing = kind_absent r part (no_child t r i e absent)

    pub ident_absent : (q : ℕ → Bool) → identifier r q (forest_of t i e) ≡ false
    ident_absent q = rw kind_missing

    pub tally_absent : how_many r (forest_of t i e) ≡ 0
    tally_absent = tally_from (forest_of t i e) ∙ rw (child_none part r (no_child t r i e absent))

  module _ {c : ℕ} (is_c : ◌≡◌ {A = Option ℕ} (Some c) (first_child t r i e)) where
    pub at_c : c ≡ child_of t r i e
    at_c = (child_some t r i e c is_c).0

    pub below_e : c < e
    below_e = (child_some t r i e c is_c).1

    found : child_of t r i e < e
    found = rw at_c at below_e

    pub head_is : head_at r (forest_of t i e) ≡ node_head t c
    head_is = rw at_c (head_there r part le found)

    pub kind_is : kind_among r (forest_of t i e) ≡ kind_at t c
    kind_is = rw at_c (kind_there r part le found)

    pub spot_is : spot_at r (forest_of t i e) ≡ node_spot t c
    spot_is = rw at_c (place_there r part le found)

    pub under_is : under r (forest_of t i e) ≡ forest_of t (c + 1) (c + size_at t c)
    under_is = rw at_c (under_there r part le found)

    pub from_c : Part t c e
    from_c = rw at_c (child_part part r le)

    pub below_c : Part t (c + 1) (c + size_at t c) × (c + 1 ≤ c + size_at t c)
    below_c = (kids from_c below_e, omega (arith, sized from_c below_e))

    pub ident_other : (q : ℕ → Bool) → (kind_at t c ≡ 20 → ⊥) → identifier r q (forest_of t i e) ≡ false
    ident_other q k = rw (kind_is, not_eqb k)

    pub ident_is : (q : ℕ → Bool) → kind_at t c ≡ 20 → identifier r q (forest_of t i e) ≡ q (value_at t c)
    unfolding node_spot
    ident_is q k = rw (kind_is, k, spot_is)

    pub tally_there : how_many r (forest_of t i e) ≡ suc (how_many r (forest_of t (c + size_at t c) e))
    unfolding node_head
    tally_there =
        tally_from (forest_of t i e)
        ∙ rw (child_node part r le found) (rw (eq-eqb r (role_at t (child_of t r i e)) (sym (child_role part r found)), how_many, at_c))

    -- the siblings after it
    pub after_c : Part t (c + size_at t c) e × (c + size_at t c ≤ e)
    after_c = (rest from_c below_e, ended from_c below_e)

-- exactly one: there is another of the role, or none
two_are : (r : ℕ) {t : List ℕ} {i e c d : ℕ} (part : Part t i e) → i ≤ e → ◌≡◌ {A = Option ℕ} (Some c) (first_child t r i e)
    → ◌≡◌ {A = Option ℕ} (Some d) (first_child t r (c + size_at t c) e) → false ≡ eqb 1 (how_many r (forest_of t i e))
two_are r {t} {i} {e} part le is_c is_d =
    let n = after_c r part le is_c in
    sym (ne_eqb 1 (how_many r (forest_of t i e)) (λ y. omega (arith, tally_there r part le is_c, tally_there r n.0 n.1 is_d)))

one_is : (r : ℕ) {t : List ℕ} {i e c : ℕ} (part : Part t i e) → i ≤ e → ◌≡◌ {A = Option ℕ} (Some c) (first_child t r i e)
    → ◌≡◌ {A = Option ℕ} None (first_child t r (c + size_at t c) e) → true ≡ eqb 1 (how_many r (forest_of t i e))
one_is r {t} {i} {e} part le is_c absent =
    let n = after_c r part le is_c in
    sym (eq-eqb 1 (how_many r (forest_of t i e)) (omega (arith, tally_there r part le is_c, tally_absent r n.0 n.1 absent)))

pub one_by : (r : ℕ) {t : List ℕ} {i e c : ℕ} (part : Part t i e) → i ≤ e → ◌≡◌ {A = Option ℕ} (Some c) (first_child t r i e)
    → (o : Option ℕ) → o ≡ first_child t r (c + size_at t c) e → (b : Bool) → is_some o ≡ not b → b ≡ eqb 1 (how_many r (forest_of t i e))
one_by r part le is_c None f true g = one_is r part le is_c f
one_by r part le is_c None f false g = cc
one_by r part le is_c (Some d) f true g = cc
one_by r part le is_c (Some d) f false g = two_are r part le is_c f

-- ---- type(x) at c, left

and_assoc : (a b c : Bool) → a && (b && c) ≡ (a && b) && c
and_assoc true b c = refl
and_assoc false b c = refl

module _ (call : ℕ) {t : List ℕ} {i e : ℕ} (part : Part t i e) (le : i ≤ e) where
  pub call_absent : ◌≡◌ {A = Option ℕ} None (first_child t 1 i e) → false ≡ type_call call (forest_of t i e)
  call_absent absent = rw (kind_missing 1 part le absent)

  module _ {c : ℕ} (is_c : ◌≡◌ {A = Option ℕ} (Some c) (first_child t 1 i e)) where
    abbrev pub calls : Bool
    calls = eqb 23 (kind_at t c) && identifier 7 (is call) (forest_of t (c + 1) (c + size_at t c))

    pub calls_is : kind_at t c ≡ 23 → {b : Bool} → b ≡ identifier 7 (is call) (forest_of t (c + 1) (c + size_at t c)) → b ≡ calls
    calls_is k f = rw k f

    pub calls_other : (kind_at t c ≡ 23 → ⊥) → false ≡ calls
    calls_other k = rw (not_eqb k)

    call_is : type_call call (forest_of t i e) ≡ calls && eqb 1 (how_many 0 (forest_of t (c + 1) (c + size_at t c)))
    call_is =
        rw (kind_is 1 part le is_c, under_is 1 part le is_c)
        (and_assoc (eqb 23 (kind_at t c)) (identifier 7 (is call) (forest_of t (c + 1) (c + size_at t c))) (eqb 1 (how_many 0 (forest_of t (c + 1) (c + size_at t c)))))

    pub call_yes : {v b : Bool} → v ≡ calls → v ≡ true → b ≡ eqb 1 (how_many 0 (forest_of t (c + 1) (c + size_at t c))) → b ≡ type_call call (forest_of t i e)
    call_yes f g h = rw call_is (rw (sym f ∙ g) h)

    pub call_no : {v : Bool} → v ≡ calls → v ≡ false → v ≡ type_call call (forest_of t i e)
    call_no f g = rw call_is (rw (sym f ∙ g) g)

-- ---- a node

module _ (names : Types) (t : List ℕ) (i : ℕ) where
  abbrev pub check_recs : List Rec
  check_recs = check_at (is names.call) (five names) (node_head t i) (forest_of t (i + 1) (i + size_at t i))

  pub check_no : false ≡ (eqb 31 (kind_at t i) || eqb 32 (kind_at t i)) → check_recs ≡ []
  unfolding node_head
  check_no b = rw (sym b)

  whole_check : type_check (is names.call) (five names) (forest_of t (i + 1) (i + size_at t i))
      ≡ type_call names.call (forest_of t (i + 1) (i + size_at t i)) && identifier 2 (five names) (forest_of t (i + 1) (i + size_at t i))
  whole_check =
      let a = eqb 23 (kind_among 1 (forest_of t (i + 1) (i + size_at t i))) in
      let b = identifier 7 (is names.call) (under 1 (forest_of t (i + 1) (i + size_at t i))) in
      let c = eqb 1 (how_many 0 (under 1 (forest_of t (i + 1) (i + size_at t i)))) in
      let d = identifier 2 (five names) (forest_of t (i + 1) (i + size_at t i)) in
      ap (λ (x : Bool). a && x) (and_assoc b c d) ∙ and_assoc a (b && c) d

  check_other : type_call names.call (forest_of t (i + 1) (i + size_at t i)) && identifier 2 (five names) (forest_of t (i + 1) (i + size_at t i)) ≡ false → check_recs ≡ []
  unfolding node_head
  check_other b = rw (whole_check ∙ b, and_false (eqb 31 (kind_at t i) || eqb 32 (kind_at t i)))

  pub check_left : false ≡ type_call names.call (forest_of t (i + 1) (i + size_at t i)) → check_recs ≡ []
  check_left f = check_other (rw (sym f))

  pub check_right : identifier 2 (five names) (forest_of t (i + 1) (i + size_at t i)) ≡ false → check_recs ≡ []
  check_right f = check_other (rw f (and_false (type_call names.call (forest_of t (i + 1) (i + size_at t i)))))

  pub check_put : (c : ℕ) → true ≡ (eqb 31 (kind_at t i) || eqb 32 (kind_at t i)) → true ≡ type_call names.call (forest_of t (i + 1) (i + size_at t i))
      → (identifier 2 (five names) (forest_of t (i + 1) (i + size_at t i)) ≡ true) × (spot_at 2 (forest_of t (i + 1) (i + size_at t i)) ≡ node_spot t c)
      → check_recs ≡ valued_at 14 (node_head t i) (node_spot t c).value ∷ []
  unfolding node_head
  check_put c a b d =
      let z : type_check (is names.call) (five names) (forest_of t (i + 1) (i + size_at t i)) ≡ true = whole_check ∙ rw (sym b, d.0) in
      rw (sym a, z, d.1)
