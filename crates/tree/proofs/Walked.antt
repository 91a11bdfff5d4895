-- A walk over siblings, by what holds of the node where it stands. Assumes nothing.
use Rattle.std.specs.Prelude.{Option, Some, None}
use Prim.Native.Nat.{ℕ, zero, suc, ◌+◌, ◌≤◌, ◌<◌}
use native.Mathlib.Omega.{arith}
use mathlib.Core.Path.{◌≡◌, refl, sym, ap, ◌∙◌}
use mathlib.Core.List.{List}
use Rattle.tree.specs.Bytes.{size_at}
use Rattle.tree.specs.code.Part.{Part}
use Rattle.tree.specs.code.Siblings.{Next, Goes, Only, goes}
use Rattle.tree.specs.declared.siblings.SiblingWalk.{SiblingWalk}
use Rattle.tree.proofs.Laws.{sized, ended, rest}

-- Walk w goes through file t up to node e, and P holds of the node where it stands.
pub record Along (t : List ℕ) (e : ℕ) (w : SiblingWalk) (P : ℕ → Type 0) : Type 0 where
  pub same : w.t.now ≡ t
  pub ends : w.end ≡ e
  pub so : P w.at

module _ {t : List ℕ} {e : ℕ} {P : ℕ → Type 0} where
  pub along_start : {i : ℕ} {v w : SiblingWalk} → w ≡ v → (v.t.now ≡ t) × (v.at ≡ i) × (v.end ≡ e) → P i → Along t e w P
  along_start is v q = rw is (record { same = v.0; ends = v.2; so = rw v.1 q })

  -- at the end
  pub along_end : {a : SiblingWalk} → Along t e a P → a.end ≤ a.at → (e ≤ a.at) × P a.at
  along_end w h = (omega (arith, w.ends), w.so)

  module _ {a b : SiblingWalk} {j : ℕ} (w : Along t e a P) (g : Goes a j b) where
    -- at a sibling
    pub along_at : (j < e) × P j
    along_at = (omega (arith, g.next.within, w.ends), rw (g.here) w.so)

    -- and on to the next
    pub along_next : Next t e j b.at
    along_next = rw (w.same, w.ends) at (g.next)

    pub along_on : {Q : ℕ → Type 0} → (Next t e j b.at → P j → Q b.at) → Along t e b Q
    along_on f =
        record { same = g.same ∙ w.same; ends = g.ends ∙ w.ends; so = f along_next along_at.1 }

  -- to where alone it goes on
  pub along_only : {a : SiblingWalk} {j n : ℕ} → Along t e a P → Only a.t.now a.end j n → Only t e j n
  along_only w x = rw (w.same, w.ends) at x

-- among whole subtrees the next sibling is behind node j and what is below it
pub next_at : {t : List ℕ} {e j n : ℕ} → Next t e j n → Part t j e → n ≡ j + size_at t j
next_at x p = x.on (sized p x.within) (ended p x.within)

-- What is left of the walk are whole subtrees.
pub record Left (t : List ℕ) (e : ℕ) (P : ℕ → Type 0) (j : ℕ) : Type 0 where
  pub part : Part t j e
  pub so : P j

abbrev pub Walked : List ℕ → ℕ → SiblingWalk → (ℕ → Type 0) → Type 0
Walked t e w P = Along t e w (Left t e P)

module _ {t : List ℕ} {e : ℕ} {P : ℕ → Type 0} where
  pub walk_start : {i : ℕ} {v w : SiblingWalk} → w ≡ v → (v.t.now ≡ t) × (v.at ≡ i) × (v.end ≡ e) → Part t i e → P i → Walked t e w P
  walk_start is v p q = along_start is v (record { part = p; so = q })

  pub walk_end : {a : SiblingWalk} → Walked t e a P → a.end ≤ a.at → (e ≤ a.at) × P a.at
  walk_end w h = (omega (arith, w.ends), w.so.so)

  module _ {a b : SiblingWalk} {j : ℕ} (w : Walked t e a P) (g : Goes a j b) where
    pub walk_at : Part t j e × (j < e) × P j
    walk_at = let h = along_at w g in (h.1.part, h.0, h.1.so)

    pub walk_on : {Q : ℕ → Type 0} → (Part t j e → j < e → P j → Q (j + size_at t j)) → Walked t e b Q
    walk_on {Q} f =
        along_on w g (λ x h. record { part = rw (next_at x h.part) (rest h.part x.within); so = rw (next_at x h.part) (f h.part x.within h.so) })

-- ---- a step is the only one

pub next_one : {t : List ℕ} {e j n m : ℕ} → Only t e j n → Only t e j m → n ≡ m
next_one {t} {e} {j} {n} {m} x y = go (size_at t j) refl
  where
    go : (s : ℕ) → s ≡ size_at t j → n ≡ m
    go zero q = x.next.stuck (sym q) ∙ sym (y.next.stuck (sym q))
    go (suc s) q = x.far (omega (arith, q)) ∙ sym (y.far (omega (arith, q)))

-- Two outcomes of a step of walk a are the same: what it gives, where it stands then, its end and its file.
pub record Same (r q : Option ℕ) (b c : SiblingWalk) : Type 0 where
  pub gives : r ≡ q
  pub at : b.at ≡ c.at
  pub end : b.end ≡ c.end
  pub file : b.t.now ≡ c.t.now

pub goes_one : (a b c : SiblingWalk) (r q : Option ℕ) → goes a r b → goes a q c → Same r q b c
goes_one a b c None None g h = rw (g.1, h.1) (record { gives = refl; at = refl; end = refl; file = refl })
goes_one a b c None (Some j) g h = absurd (let x = g.0 in omega (arith, h.0.here, h.0.next.within))
goes_one a b c (Some i) None g h = absurd (let x = h.0 in omega (arith, g.0.here, g.0.next.within))
goes_one a b c (Some i) (Some j) g h =
    let e : i ≡ j = g.0.here ∙ sym h.0.here in
    record { gives = ap Some e; at = next_one (rw e at (g.1)) h.1; end = g.0.ends ∙ sym h.0.ends; file = g.0.same ∙ sym h.0.same }
