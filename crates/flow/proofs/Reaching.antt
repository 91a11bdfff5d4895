-- What each step and return of the second walk shows. Assumes nothing.
use Rattle.std.specs.Prelude.{Some, None}
use Prim.Native.Nat.{ℕ, ◌+◌, ◌≤◌, ◌<◌}
use native.Mathlib.Omega.{arith}
use mathlib.Core.Path.{◌≡◌, refl, sym, ap, ap₂, ◌∙◌}
use mathlib.Core.List.{List, [], ◌∷◌, ◌++◌}
use mathlib.Core.Bool.{Bool, true, false, cond, ◌&&◌, ◌||◌}
use lib.Dec.{eqb}
use borrow.Author.Tests.{eq-eqb, eqb-true}
use Rattle.tree.specs.Bytes.{kind_at, size_at}
use Rattle.tree.specs.Forest.{Head, Forest, node_head, forest_of}
use Rattle.tree.specs.code.Part.{Part, Subtree}
use Rattle.tree.specs.code.Find.{first_child}
use Rattle.tree.proofs.Laws.{ended, forest_none, forest_node}
use Rattle.tree.proofs.Find.{child_ge, child_part}
use Rattle.tree.proofs.FirstChild.{child_some, child_none}
use Rattle.rules.specs.Record.{Rec, plainly}
use Rattle.rules.specs.Order.{fail_called}
use Rattle.rules.specs.Flow.{Reached, in_list, one_by_one, only, both, on_through, stopping, after_stop, reached, reached_part}
use Rattle.answer.specs.declared.LentSheet.{LentSheet}
use Rattle.answer.specs.Page.{Added}
use Rattle.answer.proofs.Flat.{Going, going_on, going_end, added_none, added_both}
use Rattle.answer.proofs.ByRole.{there, absent}
use Rattle.flow.specs.Walks.{left, Walked}
use Rattle.flow.proofs.Forms.{reach_other}
use Rattle.flow.proofs.Steps.{whole_at}

-- what a walk had left, written
going_with : {s₀ s s' : LentSheet} {all rest : List Rec} → Going s₀ all s rest → Added s s' rest → Added s₀ s' all
going_with g w = record { so = w.so ∙ g.yet; same_room = w.same_room ∙ g.same_room }

-- ---- what a walk writes and hands back

pub walked_as : {s s' : LentSheet} {b : Bool} {w w' : Reached} → Walked s s' b w → w ≡ w' → Walked s s' b w'
walked_as a e = rw e at a

pub walked_still : (s : LentSheet) (b : Bool) → Walked s s b (stopping b)
walked_still s b = record { written = added_none s; stops = refl }

walked_through : {s s' : LentSheet} (w : Reached) → Added s s' w.recs → Walked s s' false (on_through w)
walked_through w a = record { written = a; stops = refl }

pub walked_two : {s s₁ s₂ : LentSheet} {a b : Bool} {v w : Reached} → Walked s s₁ a v → Walked s₁ s₂ b w → Walked s s₂ (a && b) (both v w)
walked_two x y =
    record {
      written = added_both x.written y.written;
      stops = ap₂ (λ (p q : Bool). p && q) x.stops y.stops;
    }

false_true : {A : Type 0} → false ≡ true → A
false_true e = let z : ◌≡◌ {A = ℕ} 0 1 = ap (λ (b : Bool). cond b 1 0) e in absurd (omega arith)

-- ---- a statement

module _ (F : ℕ → Bool) (t : List ℕ) (i : ℕ) where
  abbrev under : Forest
  under = forest_of t (i + 1) (i + size_at t i)

  abbrev pub reach_here : Reached
  reach_here = reached_part F (node_head t i).kind under (λ v. reached F v under)

  at_kind : (m : ℕ) → kind_at t i ≡ m → reach_here ≡ reached_part F m under (λ v. reached F v under)
  unfolding node_head
  at_kind m e = ap (λ (x : ℕ). reached_part F x under (λ v. reached F v under)) e

  pub here_list : {e : ℕ} → e ≡ i + size_at t i → kind_at t i ≡ 8 → reached F in_list (forest_of t (i + 1) e) ≡ reach_here
  here_list a k = rw a (sym (at_kind 8 k))

  pub here_sides : {e : ℕ} → e ≡ i + size_at t i → kind_at t i ≡ 10
      → both (reached F (only 1) (forest_of t (i + 1) e)) (reached F (only 2) (forest_of t (i + 1) e)) ≡ reach_here
  here_sides a k = rw a (sym (at_kind 10 k))

  pub here_fails : {e : ℕ} {b : Bool} → e ≡ i + size_at t i → kind_at t i ≡ 5 → b ≡ fail_called F (forest_of t (i + 1) e) → stopping b ≡ reach_here
  here_fails a k h = rw (h, a) (sym (at_kind 5 k))

  stops_by : (x y z : Bool) → eqb (kind_at t i) 1 ≡ x → eqb (kind_at t i) 2 ≡ y → eqb (kind_at t i) 4 ≡ z → (x || (y || z)) ≡ true → stopping true ≡ reach_here
  stops_by true y z a b c h = sym (at_kind 1 (eqb-true (kind_at t i) 1 a))
  stops_by false true z a b c h = sym (at_kind 2 (eqb-true (kind_at t i) 2 b))
  stops_by false false true a b c h = sym (at_kind 4 (eqb-true (kind_at t i) 4 c))
  stops_by false false false a b c h = false_true h

  pub here_stops : {k : ℕ} → k ≡ kind_at t i → (eqb k 1 || (eqb k 2 || eqb k 4)) ≡ true → stopping true ≡ reach_here
  here_stops e h = stops_by (eqb (kind_at t i) 1) (eqb (kind_at t i) 2) (eqb (kind_at t i) 4) refl refl refl (rw e at h)

  not_one : (m : ℕ) → kind_at t i ≡ m → eqb (kind_at t i) m ≡ false → ⊥
  not_one m e h = false_true (sym h ∙ eq-eqb (kind_at t i) m e)

  here_each : {e k : ℕ} → e ≡ i + size_at t i → k ≡ kind_at t i → (eqb k 1 || (eqb k 2 || eqb k 4)) ≡ false
      → (kind_at t i ≡ 5 → ⊥) → (kind_at t i ≡ 8 → ⊥) → (kind_at t i ≡ 10 → ⊥) → on_through (reached F one_by_one (forest_of t (i + 1) e)) ≡ reach_here
  unfolding node_head
  here_each {e} {k} a q h x y z =
      rw a (sym (go (eqb (kind_at t i) 1) (eqb (kind_at t i) 2) (eqb (kind_at t i) 4) refl refl refl (rw q at h)))
    where
      go : (l m n : Bool) → eqb (kind_at t i) 1 ≡ l → eqb (kind_at t i) 2 ≡ m → eqb (kind_at t i) 4 ≡ n → (l || (m || n)) ≡ false → reach_here ≡ on_through (reached F one_by_one under)
      go true m n p q r h = false_true (sym h)
      go false true n p q r h = false_true (sym h)
      go false false true p q r h = false_true (sym h)
      go false false false p q r h =
          reach_other F (node_head t i) under (λ v. reached F v under) (λ e. not_one 1 e p) (λ e. not_one 2 e q) (λ e. not_one 4 e r) x y z

  -- any other statement: its children were gone through each by itself
  pub each_walked : {s s' : LentSheet} {e k : ℕ} → e ≡ i + size_at t i → k ≡ kind_at t i → (eqb k 1 || (eqb k 2 || eqb k 4)) ≡ false
      → (kind_at t i ≡ 5 → ⊥) → (kind_at t i ≡ 8 → ⊥) → (kind_at t i ≡ 10 → ⊥)
      → Added s s' (reached F one_by_one (forest_of t (i + 1) e)).recs → Walked s s' false reach_here
  each_walked {e = e} a q h x y z w = walked_as (walked_through (reached F one_by_one (forest_of t (i + 1) e)) w) (here_each a q h x y z)

-- ---- statements in a row

module _ (F : ℕ → Bool) where
  pub list_next : {t : List ℕ} {j e : ℕ} → Part t j e → j < e
      → reached F in_list (forest_of t j e)
      ≡ record {
        stops = (left F (reach_here F t j).stops (forest_of t (j + size_at t j) e)).stops;
        recs = (reach_here F t j).recs ++ (left F (reach_here F t j).stops (forest_of t (j + size_at t j) e)).recs;
      }
  list_next {t} {j} {e} p lt = ap (reached F in_list) (forest_node p lt) ∙ go (reach_here F t j).stops
    where
      go : (b : Bool)
          → ◌≡◌ {A = Reached}
          (elim b [
            | true ↦ record { stops = true; recs = (reach_here F t j).recs ++ after_stop (forest_of t (j + size_at t j) e) }
            | false ↦ (let b = reached F in_list (forest_of t (j + size_at t j) e) in record { stops = b.stops; recs = (reach_here F t j).recs ++ b.recs })
          ])
          (record {
            stops = (left F b (forest_of t (j + size_at t j) e)).stops;
            recs = (reach_here F t j).recs ++ (left F b (forest_of t (j + size_at t j) e)).recs;
          })
      go true = refl
      go false = refl

  -- a round of the loop
  pub list_again : {t : List ℕ} {j e : ℕ} → Part t j e → j < e → (b : Bool) → b ≡ false → {s₀ s : LentSheet} {all : List Rec} {whole : Bool}
      → Going s₀ all s (left F b (forest_of t j e)).recs → (left F b (forest_of t j e)).stops ≡ whole
      → {s' : LentSheet} {d : Bool} → Walked s s' d (reach_here F t j)
      → Going s₀ all s' (left F d (forest_of t (j + size_at t j) e)).recs × ((left F d (forest_of t (j + size_at t j) e)).stops ≡ whole)
  list_again {t} {j} {e} p lt b n g q {d = d} w =
      let after = forest_of t (j + size_at t j) e in
      let here = reach_here F t j in
      let z : left F b (forest_of t j e) ≡ record { stops = (left F here.stops after).stops; recs = here.recs ++ (left F here.stops after).recs } = rw n (list_next p lt) in
      let y : left F here.stops after ≡ left F d after = ap (λ (x : Bool). left F x after) (sym w.stops) in (
        going_on g here.recs (left F d after).recs w.written (ap (λ (r : Reached). r.recs) z ∙ ap (λ (r : Reached). here.recs ++ r.recs) y),
        ap (λ (r : Reached). r.stops) (sym y) ∙ sym (ap (λ (r : Reached). r.stops) z) ∙ q,
      )

  -- after the loop: one aborted, or none is left
  module _ (t : List ℕ) (i j e : ℕ) {s₀ s : LentSheet} where
    pub list_stopped : (b : Bool) → b ≡ true → {s' : LentSheet} → Going s₀ (reached F in_list (forest_of t i e)).recs s (left F b (forest_of t j e)).recs
        → (left F b (forest_of t j e)).stops ≡ (reached F in_list (forest_of t i e)).stops → Added s s' (after_stop (forest_of t j e))
        → Walked s₀ s' b (reached F in_list (forest_of t i e))
    list_stopped b k g q w =
        record { written = going_with (rw k at g) w; stops = k ∙ (rw k at q) }

    pub list_through : (b : Bool) → b ≡ false → e ≤ j → Going s₀ (reached F in_list (forest_of t i e)).recs s (left F b (forest_of t j e)).recs
        → (left F b (forest_of t j e)).stops ≡ (reached F in_list (forest_of t i e)).stops
        → Walked s₀ s b (reached F in_list (forest_of t i e))
    list_through b k h g q =
        let z = forest_none t j e h in
        record {
          written = going_end (rw k at g) (ap (λ (f : Forest). (reached F in_list f).recs) z);
          stops = k ∙ sym (ap (λ (f : Forest). (reached F in_list f).stops) z) ∙ (rw k at q);
        }

  pub each_next : {t : List ℕ} {j e : ℕ} → Part t j e → j < e
      → (reached F one_by_one (forest_of t j e)).recs ≡ (reach_here F t j).recs ++ (reached F one_by_one (forest_of t (j + size_at t j) e)).recs
  each_next {t} {j} {e} p lt = ap (λ (f : Forest). (reached F one_by_one f).recs) (forest_node p lt)

  pub each_past : (t : List ℕ) (j e : ℕ) → e ≤ j → (reached F one_by_one (forest_of t j e)).recs ≡ []
  each_past t j e h = ap (λ (f : Forest). (reached F one_by_one f).recs) (forest_none t j e h)

  -- ---- the first of a role

  abbrev Reach : Head → Forest → Reached
  Reach g k = reached_part F g.kind k (λ v. reached F v k)

  pub side_there : (r : ℕ) {t : List ℕ} {i e j : ℕ} → Part t i e → i ≤ e → Some j ≡ first_child t r i e → reach_here F t j ≡ reached F (only r) (forest_of t i e)
  side_there r {t} {i} {e} {j} p h q =
      let z = child_some t r i e j q in
      rw z.0
      (sym (there r (reached F (only r)) Reach (stopping false) refl (λ g k s b. rw (b, reached)) (λ g k s b. rw (b, reached)) p h (rw z.0 at z.1)))

  pub side_absent : (r : ℕ) {t : List ℕ} {i e : ℕ} → Part t i e → None ≡ first_child t r i e → stopping false ≡ reached F (only r) (forest_of t i e)
  side_absent r {t} {i} {e} p q =
      sym (absent r (reached F (only r)) Reach (stopping false) refl (λ g k s b. rw (b, reached)) (λ g k s b. rw (b, reached)) p (child_none t r i e q))

module _ (r : ℕ) {t : List ℕ} {i e j : ℕ} (p : Part t i e) (h : i ≤ e) (q : Some j ≡ first_child t r i e) where
  pub side_whole : Subtree t j
  side_whole = let z = child_some t r i e j q in rw z.0 (whole_at (child_part p r h) (rw z.0 at z.1))

  pub side_low : i ≤ j
  side_low = rw (child_some t r i e j q).0 (child_ge p r h)

  pub side_ends : j + size_at t j ≤ e
  side_ends = let z = child_some t r i e j q in rw z.0 (ended (child_part p r h) (rw z.0 at z.1))

-- ---- 9

module _ (t : List ℕ) (j e : ℕ) where
  pub unreached_some : Part t j e → j < e → after_stop (forest_of t j e) ≡ plainly 9 (node_head t j) ∷ []
  unreached_some a lt = rw (forest_node a lt)

  pub unreached_none : e ≤ j → after_stop (forest_of t j e) ≡ []
  unreached_none h = rw (forest_none t j e h)

-- no sibling is left, whether or not the last one aborts
pub list_done : (F : ℕ → Bool) (t : List ℕ) (i j e : ℕ) {s₀ s : LentSheet} (b : Bool) → e ≤ j
    → Going s₀ (reached F in_list (forest_of t i e)).recs s (left F b (forest_of t j e)).recs
    → (left F b (forest_of t j e)).stops ≡ (reached F in_list (forest_of t i e)).stops
    → Walked s₀ s b (reached F in_list (forest_of t i e))
list_done F t i j e true h g q = list_stopped F t i j e true refl g q (rw (unreached_none t j e h) (added_none _))
list_done F t i j e false h g q = list_through F t i j e false refl h g q
