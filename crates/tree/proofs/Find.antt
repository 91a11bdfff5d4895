-- Laws of the first sibling of a role. Assumes nothing.
use Prim.Native.Nat.{ℕ, zero, suc, ◌+◌, ◌-◌, ◌≤◌, ◌<◌}
use native.Mathlib.Omega.{arith}
use native.Mathlib.Decide.{dec_lt, ℕ_discrete}
use mathlib.Core.Path.{◌≡◌, refl, sym, ◌∙◌}
use mathlib.Core.List.{List}
use lib.Dec.{T, eqb, eqb→eq}
use borrow.Author.Tests.{lt-ltb, le-ltb, eq-eqb, ne_eqb}
use Rattle.tree.specs.Bytes.{role_at, size_at}
use Rattle.tree.specs.Forest.{none, node, node_head, forest_of}
use Rattle.tree.specs.code.Part.{Part}
use Rattle.tree.specs.Children.{many, in_pairs}
use Rattle.tree.specs.code.Find.{child_in, child_of, from_role}
use Rattle.tree.proofs.Shape.{left, right}
use Rattle.tree.proofs.Laws.{later, sized, ended, rest, forest_none, forest_node, induct}

in_end : (k : ℕ) (t : List ℕ) (r i e : ℕ) → e ≤ i → child_in k t r i e ≡ e
unfolding child_in
in_end zero t r i e h = refl
in_end (suc k) t r i e h = rw (le-ltb i e h, child_in)

in_here : (k : ℕ) (t : List ℕ) (r i e : ℕ) → i < e → role_at t i ≡ r → child_in (suc k) t r i e ≡ i
unfolding child_in
in_here k t r i e h q = rw (lt-ltb i e h, eq-eqb r (role_at t i) (sym q), child_in)

in_next : (k : ℕ) (t : List ℕ) (r i e : ℕ) → i < e → (role_at t i ≡ r → ⊥) → child_in (suc k) t r i e ≡ child_in k t r (i + size_at t i) e
unfolding child_in
in_next k t r i e h q = rw (lt-ltb i e h, ne_eqb r (role_at t i) (λ z. q (sym z)), child_in)

-- more fuel changes nothing
enough : (k l : ℕ) (r : ℕ) {t : List ℕ} {i e : ℕ} → Part t i e → e - i ≤ k → e - i ≤ l → child_in k t r i e ≡ child_in l t r i e
enough zero l r {t} {i} {e} p a b = in_end 0 t r i e (omega arith) ∙ sym (in_end l t r i e (omega arith))
enough (suc k) zero r {t} {i} {e} p a b = in_end (suc k) t r i e (omega arith) ∙ sym (in_end 0 t r i e (omega arith))
enough (suc k) (suc l) r {t} {i} {e} p a b = go (dec_lt i e) (ℕ_discrete (role_at t i) r) (λ lt s. enough k l r (rest p lt) (omega arith) (omega arith))
  where
    go : Dec (i < e) → Dec (role_at t i ≡ r) → ((lt : i < e) → 1 ≤ size_at t i → child_in k t r (i + size_at t i) e ≡ child_in l t r (i + size_at t i) e) → child_in (suc k) t r i e ≡ child_in (suc l) t r i e
    go (no h) d g = in_end (suc k) t r i e (omega arith) ∙ sym (in_end (suc l) t r i e (omega arith))
    go (yes lt) (yes q) g = in_here k t r i e lt q ∙ sym (in_here l t r i e lt q)
    go (yes lt) (no q) g = in_next k t r i e lt q ∙ g lt (sized p lt) ∙ sym (in_next l t r i e lt q)

-- past the last sibling there is none
pub child_end : (t : List ℕ) (r i e : ℕ) → e ≤ i → child_of t r i e ≡ e
unfolding child_of
child_end t r i e h = in_end (e - i) t r i e h

-- node i itself
pub child_here : (t : List ℕ) (r i e : ℕ) → i < e → role_at t i ≡ r → child_of t r i e ≡ i
unfolding child_of
child_here t r i e h q = let z : e - i ≡ suc (e - i - 1) = omega arith in rw z (in_here (e - i - 1) t r i e h q)

-- node i has another role
pub child_next : {t : List ℕ} {i e : ℕ} → Part t i e → i < e → (r : ℕ) → (role_at t i ≡ r → ⊥) → child_of t r i e ≡ child_of t r (i + size_at t i) e
unfolding child_of
child_next {t} {i} {e} p h r q =
    let s = sized p h in
    enough (e - i) (suc (e - i)) r p (omega arith) (omega arith) ∙ in_next (e - i) t r i e h q
    ∙ enough (e - i) (e - (i + size_at t i)) r (rest p h) (omega arith) (omega arith)

-- What holds at the end, at a node of the role, and at a node of another role where it holds of its later siblings,
-- holds of every part.
pub seek : (r : ℕ) (Q : ℕ → ℕ → Type 0) (t : List ℕ)
    → ((i e : ℕ) → e ≤ i → Q i e)
    → ((i e : ℕ) → Part t i e → i < e → role_at t i ≡ r → Q i e)
    → ((i e : ℕ) → Part t i e → i < e → (role_at t i ≡ r → ⊥) → Q (i + size_at t i) e → Q i e)
    → {i e : ℕ} → Part t i e → Q i e
seek r Q t base here next p = induct Q t base (λ i e p lt below after. go i e p lt after (ℕ_discrete (role_at t i) r)) p
  where
    go : (i e : ℕ) → Part t i e → i < e → Q (i + size_at t i) e → Dec (role_at t i ≡ r) → Q i e
    go i e p lt after (yes q) = here i e p lt q
    go i e p lt after (no q) = next i e p lt q after

-- it stands between i and e
pub child_le : {t : List ℕ} {i e : ℕ} → Part t i e → (r : ℕ) → child_of t r i e ≤ e
child_le {t} p r =
    seek r (λ i e. child_of t r i e ≤ e) t (λ i e h. omega (arith, child_end t r i e h)) (λ i e p lt q. omega (arith, child_here t r i e lt q))
    (λ i e p lt q ih. omega (arith, child_next p lt r q)) p

pub child_ge : {t : List ℕ} {i e : ℕ} → Part t i e → (r : ℕ) → i ≤ e → i ≤ child_of t r i e
child_ge {t} p r =
    seek r (λ i e. i ≤ e → i ≤ child_of t r i e) t (λ i e h l. omega (arith, child_end t r i e h)) (λ i e p lt q l. omega (arith, child_here t r i e lt q))
    (λ i e p lt q ih l. omega (arith, child_next p lt r q, ih (ended p lt))) p

-- where there is one, it has the role
pub child_role : {t : List ℕ} {i e : ℕ} → Part t i e → (r : ℕ) → child_of t r i e < e → role_at t (child_of t r i e) ≡ r
child_role {t} p r = seek r (λ i e. child_of t r i e < e → role_at t (child_of t r i e) ≡ r) t nothing here next p
  where
    nothing : (i e : ℕ) → e ≤ i → child_of t r i e < e → role_at t (child_of t r i e) ≡ r
    nothing i e h l = absurd (omega (arith, child_end t r i e h))

    here : (i e : ℕ) → Part t i e → i < e → role_at t i ≡ r → child_of t r i e < e → role_at t (child_of t r i e) ≡ r
    here i e p lt q l = rw (child_here t r i e lt q) q

    next : (i e : ℕ) → Part t i e → i < e → (role_at t i ≡ r → ⊥) → (child_of t r (i + size_at t i) e < e → role_at t (child_of t r (i + size_at t i) e) ≡ r)
        → child_of t r i e < e → role_at t (child_of t r i e) ≡ r
    next i e p lt q ih l = let z = child_next p lt r q in rw z (ih (rw z at l))

-- from it on, the siblings are a part
pub child_part : {t : List ℕ} {i e : ℕ} → Part t i e → (r : ℕ) → i ≤ e → Part t (child_of t r i e) e
child_part p r l = later p (child_ge p r l)

-- the link to the forest: its siblings from the first of role r on are those from child_of on
pub child_forest : {t : List ℕ} {i e : ℕ} → Part t i e → (r : ℕ) → from_role r (forest_of t i e) ≡ forest_of t (child_of t r i e) e
unfolding from_role node_head
child_forest {t} p r = seek r (λ i e. from_role r (forest_of t i e) ≡ forest_of t (child_of t r i e) e) t nothing here next p
  where
    nothing : (i e : ℕ) → e ≤ i → from_role r (forest_of t i e) ≡ forest_of t (child_of t r i e) e
    nothing i e h = rw (child_end t r i e h, forest_none t i e h) (sym (forest_none t e e (omega arith)))

    here : (i e : ℕ) → Part t i e → i < e → role_at t i ≡ r → from_role r (forest_of t i e) ≡ forest_of t (child_of t r i e) e
    here i e p lt q = rw (child_here t r i e lt q, forest_node p lt) (rw (eq-eqb r (role_at t i) (sym q), from_role))

    next : (i e : ℕ) → Part t i e → i < e → (role_at t i ≡ r → ⊥) → from_role r (forest_of t (i + size_at t i) e) ≡ forest_of t (child_of t r (i + size_at t i) e) e
        → from_role r (forest_of t i e) ≡ forest_of t (child_of t r i e) e
    next i e p lt q ih = rw (child_next p lt r q, forest_node p lt) (rw (ne_eqb r (role_at t i) (λ z. q (sym z)), from_role) ih)

-- where there is one, it is the first of those; where there is none, nothing is left
pub child_node : {t : List ℕ} {i e : ℕ} → Part t i e → (r : ℕ) → i ≤ e → child_of t r i e < e
    → from_role r (forest_of t i e)
    ≡ node (node_head t (child_of t r i e))
    (forest_of t (child_of t r i e + 1) (child_of t r i e + size_at t (child_of t r i e)))
    (forest_of t (child_of t r i e + size_at t (child_of t r i e)) e)
child_node p r l lt = child_forest p r ∙ forest_node (child_part p r l) lt

pub child_none : {t : List ℕ} {i e : ℕ} → Part t i e → (r : ℕ) → e ≤ child_of t r i e → from_role r (forest_of t i e) ≡ none
child_none {t} {i} {e} p r h = child_forest p r ∙ forest_none t (child_of t r i e) e h

-- how many have the role: node i and the later ones
module _ {t : List ℕ} {i e : ℕ} (p : Part t i e) (lt : i < e) (r : ℕ) where
  pub many_here : role_at t i ≡ r → many r (forest_of t i e) ≡ suc (many r (forest_of t (i + size_at t i) e))
  unfolding many node_head
  many_here q = rw (forest_node p lt) (simp (eq-eqb _ _ q) (omega arith))

  pub many_next : (role_at t i ≡ r → ⊥) → many r (forest_of t i e) ≡ many r (forest_of t (i + size_at t i) e)
  unfolding many node_head
  many_next q = rw (forest_node p lt) (simp (ne_eqb _ _ q) (omega arith))

pub many_end : (t : List ℕ) (i e r : ℕ) → e ≤ i → many r (forest_of t i e) ≡ 0
unfolding many
many_end t i e r h = rw (forest_none t i e h)

-- from the first of the role on, all of them stand
pub child_many : {t : List ℕ} {i e : ℕ} → Part t i e → (r : ℕ) → many r (forest_of t (child_of t r i e) e) ≡ many r (forest_of t i e)
child_many {t} p r =
    seek r (λ i e. many r (forest_of t (child_of t r i e) e) ≡ many r (forest_of t i e)) t
    (λ i e h. rw (child_end t r i e h) (many_end t e e r (omega arith) ∙ sym (many_end t i e r h)))
    (λ i e p lt q. rw (child_here t r i e lt q))
    (λ i e p lt q ih. rw (child_next p lt r q, many_next p lt r q) ih) p

pub child_there : {t : List ℕ} {i e : ℕ} → Part t i e → (r : ℕ) → 1 ≤ many r (forest_of t i e) → child_of t r i e < e
child_there {t} p r =
    seek r (λ i e. 1 ≤ many r (forest_of t i e) → child_of t r i e < e) t
    (λ i e h l. absurd (omega (arith, many_end t i e r h)))
    (λ i e p lt q l. omega (arith, child_here t r i e lt q))
    (λ i e p lt q ih l. rw (child_next p lt r q) (ih (omega (arith, many_next p lt r q)))) p

-- in a dict, node i has the role whose turn it is, and the other role's turn comes
pub pair_here : {t : List ℕ} {i e : ℕ} → Part t i e → i < e → (w : ℕ) → T (in_pairs w (forest_of t i e)) → role_at t i ≡ w
unfolding in_pairs node_head
pair_here {t} {i} p lt w v = eqb→eq (role_at t i) w (left (eqb (role_at t i) w) _ (rw (forest_node p lt) at v))

pub pair_next : {t : List ℕ} {i e : ℕ} → Part t i e → i < e → (w : ℕ) → T (in_pairs w (forest_of t i e)) → T (in_pairs (12 - w) (forest_of t (i + size_at t i) e))
unfolding in_pairs node_head
pair_next {t} {i} p lt w v = right (eqb (role_at t i) w) _ (rw (forest_node p lt) at v)
