-- What 02's "the one that the names walk meets first" says: of the list of nodes met, of the walk itself, and of trees in which no two
-- nodes share span and name. Assumes nothing.
use Prim.Native.Nat.{ℕ, suc, ◌+◌, ◌≤◌}
use native.Mathlib.Omega.{arith}
use mathlib.Core.Path.{◌≡◌, refl, sym, ap, ap₂, subst, ◌∙◌}
use mathlib.Core.Bool.{Bool, true, false, cond, ◌||◌, not}
use mathlib.Core.List.{List, [], ◌∷◌, ◌++◌, append-nil, append_assoc}
use mathlib.Core.Logic.{◌⊎◌, inl, inr}
use mathlib.Core.Option.{Option}
use lib.Dec.{leb, T}
use Rattle.tree.specs.Forest.{Spot, Head, Forest}
use Rattle.rules.specs.Record.{Each}
use Rattle.rules.specs.Order.{Form, form_of, Bind, one, several, nothing, bind_of, Cmd, skip, ◌⨟◌, use_of, set_of, stop, branch, loop, scope, of_role, binds, takes, body}
use Rattle.rules.specs.Names.{same, State, back_to, joined, unlooped, enter, leave, branch_of, same_state, round, rounds, walk, names, met, first_met}
use Rattle.rules.specs.code.Marks.{names_tour}
use Rattle.rules.specs.Runs.{Node, at as node_at, below as node_below, beside as node_beside, Body, of_module, of_def, Held, Reach, here, first, second, left, right, now, later, continued}
use Rattle.rules.specs.Premises.{names_apart}
use Rattle.rules.specs.Meeting.{is_met, MeetsFirst, Noted, with_state, branch_noted, same_noted, round_noted, rounds_noted, noting}
use Rattle.rules.proofs.Bools.{or_left, or_right}
use Rattle.rules.proofs.Spots.{same_sound, same_exact}
use Rattle.rules.proofs.Unique.{hit, ident_hit, bind_hit, me, count}
use Rattle.rules.proofs.Valid.{unique_of}
use Rattle.rules.proofs.Meets.{is_identifier, is_one, Holder, at, below, beside, met_holders, bound_holders}
use Rattle.rules.proofs.Out.{tour_hold, names_hold}
use Rattle.rules.proofs.Each.{each_left, each_more, each_right, join}

-- ---- of a list

-- THE FIRST of a list: it has that span and name, and none before it has
pub first_is : (s : Spot) (hs : List Head) → T (is_met hs s) → MeetsFirst s hs (first_met s hs)
first_is s [] t = absurd t
first_is s (h ∷ hs) t = go (same s h.spot) refl (first_is s hs) t
  where
    later_one : same s h.spot ≡ false → MeetsFirst s hs (first_met s hs) → MeetsFirst s (h ∷ hs) (first_met s hs)
    later_one e f =
        record {
          before = h ∷ f.before;
          it = f.it;
          after = f.after;
          there = ap (λ (l : List Head). h ∷ l) f.there;
          pair = f.pair;
          numbered = f.numbered;
          none_earlier = subst (λ (b : Bool). T (not (b || is_met f.before s))) (sym e) f.none_earlier;
        }

    go : (b : Bool) → same s h.spot ≡ b → (T (is_met hs s) → MeetsFirst s hs (first_met s hs)) → T (b || is_met hs s)
        → MeetsFirst s (h ∷ hs) (elim b as (λ x. ℕ) [ true ↦ h.number | false ↦ first_met s hs ])
    go true e f u =
        record {
          before = [];
          it = h;
          after = hs;
          there = refl;
          pair = sym (same_sound s h.spot (subst T (sym e) tt));
          numbered = refl;
          none_earlier = tt;
        }
    go false e f u = later_one e (f u)

-- ---- of the walk

append_met : (s : Spot) (xs ys : List Head) → is_met (xs ++ ys) s ≡ (is_met xs s || is_met ys s)
append_met s [] ys = refl
append_met s (x ∷ xs) ys = go (same s x.spot) (append_met s xs ys)
  where
    go : (b : Bool) → is_met (xs ++ ys) s ≡ (is_met xs s || is_met ys s) → (b || is_met (xs ++ ys) s) ≡ ((b || is_met xs s) || is_met ys s)
    go true e = refl
    go false e = e

append_first : (s : Spot) (xs ys : List Head) → first_met s (xs ++ ys) ≡ cond (is_met xs s) (first_met s xs) (first_met s ys)
append_first s [] ys = refl
append_first s (x ∷ xs) ys = go (same s x.spot) (append_first s xs ys)
  where
    go : (b : Bool) → first_met s (xs ++ ys) ≡ cond (is_met xs s) (first_met s xs) (first_met s ys)
        → elim b as (λ z. ℕ) [ true ↦ x.number | false ↦ first_met s (xs ++ ys) ]
        ≡ cond (b || is_met xs s) (elim b as (λ z. ℕ) [ true ↦ x.number | false ↦ first_met s xs ]) (first_met s ys)
    go true e = refl
    go false e = e

-- the nodes that the walk meets, those of a loop's second round again
abbrev meetings : ℕ → Cmd → List Head
meetings d skip = []
meetings d (a ⨟ b) = meetings d a ++ meetings d b
meetings d (use_of h) = h ∷ []
meetings d (set_of o h) = h ∷ []
meetings d (stop why) = []
meetings d (branch a b) = meetings d a ++ meetings d b
meetings d (loop c) = cond (leb (suc d) 5) (meetings (suc d) c ++ meetings (suc d) c) (meetings (suc d) c)
meetings d (scope c) = meetings d c

-- two lists have the same first nodes
record Alike (s : Spot) (xs ys : List Head) : Type 0 where
  are : is_met xs s ≡ is_met ys s
  firsts : first_met s xs ≡ first_met s ys

alike_two : {s : Spot} {xs ys us vs : List Head} → Alike s xs us → Alike s ys vs → Alike s (xs ++ ys) (us ++ vs)
alike_two {s} {xs} {ys} {us} {vs} p q =
    record {
      are = append_met s xs ys ∙ ap₂ (λ (a b : Bool). a || b) p.are q.are ∙ sym (append_met s us vs);
      firsts = append_first s xs ys
          ∙ (λ i. cond (p.are i) (p.firsts i) (q.firsts i))
          ∙ sym (append_first s us vs);
    }

again_or : (b : Bool) → (b || b) ≡ b
again_or true = refl
again_or false = refl

again_cond : (b : Bool) (n : ℕ) → cond b n n ≡ n
again_cond true n = refl
again_cond false n = refl

alike_again : (s : Spot) (xs : List Head) → Alike s (xs ++ xs) xs
alike_again s xs =
    record {
      are = append_met s xs xs ∙ again_or (is_met xs s);
      firsts = append_first s xs xs ∙ again_cond (is_met xs s) (first_met s xs);
    }

alike_then : {s : Spot} {xs ys zs : List Head} → Alike s xs ys → Alike s ys zs → Alike s xs zs
alike_then p q = record { are = p.are ∙ q.are; firsts = p.firsts ∙ q.firsts }

meetings_met : (s : Spot) (c : Cmd) (d : ℕ) → Alike s (meetings d c) (met c)
meetings_met s skip d = record { are = refl; firsts = refl }
meetings_met s (a ⨟ b) d = alike_two (meetings_met s a d) (meetings_met s b d)
meetings_met s (use_of h) d = record { are = refl; firsts = refl }
meetings_met s (set_of o h) d = record { are = refl; firsts = refl }
meetings_met s (stop why) d = record { are = refl; firsts = refl }
meetings_met s (branch a b) d = alike_two (meetings_met s a d) (meetings_met s b d)
meetings_met s (loop c) d = go (leb (suc d) 5) (meetings_met s c (suc d))
  where
    go : (b : Bool) → Alike s (meetings (suc d) c) (met c) → Alike s (cond b (meetings (suc d) c ++ meetings (suc d) c) (meetings (suc d) c)) (met c)
    go true p = alike_then (alike_again s (meetings (suc d) c)) p
    go false p = p
meetings_met s (scope c) d = meetings_met s c d

-- what a noting walk does: the walk's state, and these nodes more
record Notes (f : Noted → Noted) (g : State → State) (hs : List Head) : Type 0 where
  states : (n : Noted) → (f n).state ≡ g n.state
  more : (n : Noted) → (f n).nodes ≡ n.nodes ++ hs

branch_notes : {f g : Noted → Noted} {p q : State → State} {xs ys : List Head} → Notes f p xs → Notes g q ys
    → Notes (branch_noted f g) (branch_of p q) (xs ++ ys)
branch_notes {f} {g} {p} {q} {xs} {ys} a b =
    record {
      states = λ n. ap₂ joined (a.states n)
          (b.states (with_state (back_to n.state (f n).state) (f n)) ∙ ap (λ (x : State). q (back_to n.state x)) (a.states n));
      more = λ n. b.more (with_state (back_to n.state (f n).state) (f n)) ∙ ap (λ (l : List Head). l ++ ys) (a.more n)
          ∙ append_assoc n.nodes xs ys;
    }

round_notes : {f : Noted → Noted} {p : State → State} {xs : List Head} → Notes f p xs → Notes (round_noted f) (round p) xs
round_notes {f} {p} {xs} a =
    let b : Notes (branch_noted f same_noted) (branch_of p same_state) (xs ++ [])
    = branch_notes {g = same_noted} {q = same_state} a (record { states = λ n. refl; more = λ n. sym (append-nil n.nodes) }) in
    record {
      states = λ n. ap unlooped (b.states n);
      more = λ n. b.more n ∙ ap (λ (l : List Head). n.nodes ++ l) (append-nil xs);
    }

rounds_notes : (b : Bool) {f : Noted → Noted} {p : State → State} {xs : List Head} → Notes f p xs
    → Notes (rounds_noted b f) (rounds b p) (cond b (xs ++ xs) xs)
rounds_notes true {f} {p} {xs} a =
    let r = round_notes a in
    record {
      states = λ n. r.states (round_noted f n) ∙ ap (round p) (r.states n);
      more = λ n. r.more (round_noted f n) ∙ ap (λ (l : List Head). l ++ xs) (r.more n) ∙ append_assoc n.nodes xs xs;
    }
rounds_notes false a = round_notes a

module _ (u : ℕ → Bool) where
  notes : (c : Cmd) (d : ℕ) → Notes (noting u d c) (walk u d c) (meetings d c)
  notes skip d = record { states = λ n. refl; more = λ n. sym (append-nil n.nodes) }
  notes (a ⨟ b) d =
      let x = notes a d in
      let y = notes b d in
      record {
        states = λ n. y.states (noting u d a n) ∙ ap (walk u d b) (x.states n);
        more = λ n. y.more (noting u d a n) ∙ ap (λ (l : List Head). l ++ meetings d b) (x.more n)
            ∙ append_assoc n.nodes (meetings d a) (meetings d b);
      }
  notes (use_of h) d = record { states = λ n. refl; more = λ n. refl }
  notes (set_of o h) d = record { states = λ n. refl; more = λ n. refl }
  notes (stop why) d = record { states = λ n. refl; more = λ n. sym (append-nil n.nodes) }
  notes (branch a b) d = branch_notes (notes a d) (notes b d)
  notes (loop c) d = rounds_notes (leb (suc d) 5) (notes c (suc d))
  notes (scope c) d =
      let x = notes c d in
      record {
        states = λ n. ap (leave u) (x.states (with_state (enter n.state) n));
        more = λ n. x.more (with_state (enter n.state) n);
      }

  -- THE WALK that notes is the walk of Names
  pub noting_walks : (c : Cmd) (d : ℕ) (n : Noted) → (noting u d c n).state ≡ walk u d c n.state
  noting_walks c d n = (notes c d).states n

  -- .. and of the nodes that it notes the first of a span and name is that of the list
  pub noting_first : (c : Cmd) (d : ℕ) (st : State) (s : Spot)
      → first_met s (noting u d c (record { state = st; nodes = [] })).nodes ≡ first_met s (met c)
  noting_first c d st s = ap (first_met s) ((notes c d).more (record { state = st; nodes = [] })) ∙ (meetings_met s c d).firsts

-- ---- of a tree

-- each spot of a list of nodes is met in it
met_of : (hs : List Head) → Each (λ h. T (is_met hs h.spot)) hs
met_of hs = go hs (λ h t. t)
  where
    go : (xs : List Head) → ((t : Spot) → T (is_met xs t) → T (is_met hs t)) → Each (λ h. T (is_met hs h.spot)) xs
    go [] f = tt
    go (x ∷ xs) f = (
      f x.spot (or_left (same x.spot x.spot) (is_met xs x.spot) (same_exact x.spot)),
      go xs (λ t m. f t (or_right (same t x.spot) (is_met xs t) m)),
    )

-- EACH SPOT at which names warns is met.
pub tour_met : (u : ℕ → Bool) (g : Option (ℕ → Bool)) (c : Cmd) → Each (λ w. T (is_met (met c) w.spot)) (names_tour u g c)
tour_met u g c = tour_hold (is_met (met c)) u g c (met_of (met c))

pub warned_met : (u is_fail : ℕ → Bool) (g : Option (ℕ → Bool)) (f : Forest)
    → Each (λ w. T (is_met (met (body is_fail f)) w.spot)) (names u is_fail g f)
warned_met u is_fail g f =
    names_hold (is_met (met (body is_fail f))) u is_fail g f (met_of (met (body is_fail f)))

-- a node that holds a name is counted at its spot
one_hit : (b : Bool) → T b → 1 ≤ hit b
one_hit true t = omega arith
one_hit false t = absurd t

me_one : (s : Spot) (h : Head) → T (same s h.spot) → T (is_identifier (form_of h)) ⊎ T (is_one (bind_of h)) → 1 ≤ me s h
me_one s h e (inl t) = go (form_of h) t
  where
    go : (z : Form) → T (is_identifier z) → 1 ≤ ident_hit z s h + bind_hit (bind_of h) s h
    go Form.identifier t = let q = one_hit (same s h.spot) e in omega (arith, q)
    go Form.breaking t = absurd t
    go Form.returning t = absurd t
    go Form.expression t = absurd t
    go Form.assign t = absurd t
    go Form.modify t = absurd t
    go Form.statements t = absurd t
    go Form.if t = absurd t
    go Form.if_else t = absurd t
    go Form.for t = absurd t
    go Form.def t = absurd t
    go Form.load t = absurd t
    go Form.lambda t = absurd t
    go Form.comprehension t = absurd t
    go Form.plain t = absurd t
me_one s h e (inr t) = go (bind_of h) t
  where
    go : (z : Bind) → T (is_one z) → 1 ≤ ident_hit (form_of h) s h + bind_hit z s h
    go (one o) t = let q = one_hit (same s h.spot) e in omega (arith, q)
    go several t = absurd t
    go nothing t = absurd t

counted : (s : Spot) {h : Head} {f : Forest} → Holder h f → T (same s h.spot) → 1 ≤ count s f
counted s {h} (at t) e = let p = me_one s h e t in omega arith
counted s (below n) e = let p = counted s n e in omega arith
counted s (beside n) e = let p = counted s n e in omega arith

-- where a span and name stands once, two nodes that have it are one
only_one : (s : Spot) {g h : Head} (f : Forest) → count s f ≤ 1 → Holder g f → Holder h f → T (same s g.spot) → T (same s h.spot) → g ≡ h
only_one s f u (at t) (at v) a b = refl
only_one s {g} f u (at t) (below n) a b = let p = me_one s g a t in let q = counted s n b in absurd (let z : ⊥ = omega (arith, p, q, u) in z)
only_one s {g} f u (at t) (beside n) a b = let p = me_one s g a t in let q = counted s n b in absurd (let z : ⊥ = omega (arith, p, q, u) in z)
only_one s {g} {h} f u (below n) (at v) a b = let p = me_one s h b v in let q = counted s n a in absurd (let z : ⊥ = omega (arith, p, q, u) in z)
only_one s f u (below {k = k} n) (below m) a b = only_one s k (omega (arith, u)) n m a b
only_one s f u (below n) (beside m) a b = let p = counted s n a in let q = counted s m b in absurd (let z : ⊥ = omega (arith, p, q, u) in z)
only_one s {g} {h} f u (beside n) (at v) a b = let p = me_one s h b v in let q = counted s n a in absurd (let z : ⊥ = omega (arith, p, q, u) in z)
only_one s f u (beside n) (below m) a b = let p = counted s n a in let q = counted s m b in absurd (let z : ⊥ = omega (arith, p, q, u) in z)
only_one s f u (beside {s = r} n) (beside m) a b = only_one s r (omega (arith, u)) n m a b

first_of_one : (s : Spot) (g : Head) (hs : List Head) → Each (λ h. T (same s h.spot) → h ≡ g) hs → T (is_met hs s) → first_met s hs ≡ g.number
first_of_one s g [] p t = absurd t
first_of_one s g (h ∷ hs) p t = go (same s h.spot) p.0 (first_of_one s g hs p.1) t
  where
    go : (b : Bool) → (T b → h ≡ g) → (T (is_met hs s) → first_met s hs ≡ g.number) → T (b || is_met hs s)
        → elim b as (λ z. ℕ) [ true ↦ h.number | false ↦ first_met s hs ] ≡ g.number
    go true e f u = ap (λ (x : Head). x.number) (e tt)
    go false e f u = f u

-- WHERE no two nodes share span and name, it is the node itself.
pub itself : (is_fail : ℕ → Bool) (f : Forest) → T (names_apart f) → (g : Head) → Holder g f → T (is_met (met (body is_fail f)) g.spot)
    → first_met g.spot (met (body is_fail f)) ≡ g.number
itself is_fail f u g n t =
    first_of_one g.spot g (met (body is_fail f))
    (each_more (λ h. Holder h f) (λ h. T (same g.spot h.spot) → h ≡ g)
    (λ h m e. sym (only_one g.spot f (unique_of f u g.spot) n m (same_exact g.spot) e)) (met (body is_fail f)) (met_holders is_fail (of_role 0) f))
    t

-- ---- of a run

-- a use that a run reaches is met
reach_met : (P : Head → Type 0) {g : Head} {c : Cmd} {σ : Held} → Reach g c σ → Each P (met c) → P g
reach_met P (here n) p = p.0
reach_met P (first {a = a} {b = b} r) p = reach_met P r (each_left P (met a) (met b) p)
reach_met P (second {a = a} {b = b} q r) p = reach_met P r (each_right P (met a) (met b) p)
reach_met P (left {a = a} {b = b} r) p = reach_met P r (each_left P (met a) (met b) p)
reach_met P (right {a = a} {b = b} r) p = reach_met P r (each_right P (met a) (met b) p)
reach_met P (now r) p = reach_met P r p
reach_met P (later q r) p = reach_met P r p
reach_met P (continued q r) p = reach_met P r p

under_node : {g h : Head} {k f : Forest} → Node h k f → Holder g k → Holder g f
under_node node_at n = below n
under_node (node_below m) n = below (under_node m n)
under_node (node_beside m) n = beside (under_node m n)

-- a use that a run of a body reaches is a node of the tree that holds a name
pub reached_holder : (is_fail : ℕ → Bool) (f : Forest) {b : Cmd} → Body is_fail f b → {g : Head} {σ : Held} → Reach g b σ → Holder g f
reached_holder is_fail f of_module r = reach_met (λ h. Holder h f) r (met_holders is_fail (of_role 0) f)
reached_holder is_fail f (of_def {h = h} {k = k} n e) r =
    under_node n
    (reach_met (λ h. Holder h k) r
    (join (λ h. Holder h k) (met (binds 0 k)) (met (takes is_fail (of_role 1) k)) (bound_holders 0 k) (met_holders is_fail (of_role 1) k)))
