-- How many unbound uses the walk with marks holds at once, of a tree: by its loops that are gone round twice, and by the assign-modifies that stand one in another.
use Prim.Native.Nat.{ℕ, zero, suc, ◌+◌, ◌-◌, ◌*◌, ◌≤◌, max}
use native.Mathlib.Omega.{arith}
use mathlib.Core.Path.{◌≡◌, refl, sym, subst}
use mathlib.Core.Bool.{Bool, true, false, not, cond}
use mathlib.Core.List.{[], ◌∷◌}
use lib.Dec.{eqb, leb, T, leb→le}
use Rattle.tree.specs.Forest.{Head, Forest, Forest.none as leaf, node}
use Rattle.rules.specs.Visit.{has}
use Rattle.rules.specs.Order.{Form, form_of, fail_called, Stop, Sort, Cmd, breaks, bare, valued, fails, skip, ◌⨟◌, use_of, set_of, stop, branch, loop, scope, Bind, one, several, nothing, bind_of, bind_part, use_part, binds, uses, Want, of_role, every, first_over, first_bound, clauses, picked, part, takes, body, broken_by}
use Rattle.rules.specs.Names.{same}
use Rattle.rules.proofs.Spots.{same_sound, same_exact}
use Rattle.rules.proofs.Bounds.{gather, most, way, again, times, times_le, times_add, tour_way, no_set, use_key, whole, unbound_laws}
use Rattle.rules.specs.code.Marks.{total, start, Every, unbound_in, nodes}
use Rattle.rules.proofs.Nodes.{role, roles_le, once_two, once_again}
use Rattle.rules.proofs.Look.{Link, linked, case}
use Rattle.rules.proofs.Unique.{only}

abbrev ends : Cmd → ℕ
ends c = most same use_key no_set whole c

abbrev ways : ℕ → Cmd → ℕ
ways d c = way same use_key no_set whole d c

times_mono : (k m n : ℕ) → m ≤ n → times k m ≤ times k n
times_mono zero m n p = p
times_mono (suc k) m n p = let q : times k m ≤ times k n = times_mono k m n p in omega arith

times_up : (k n : ℕ) → times k n ≤ times (suc k) n
times_up k n = omega arith

fewer : (j k n : ℕ) → j ≤ k → times j n ≤ times k n
fewer zero k n p = times_le k n
fewer (suc j) zero n p = absurd (let z : ⊥ = omega arith in z)
fewer (suc j) (suc k) n p = let q : times j n ≤ times k n = fewer j k n (omega arith) in omega arith

-- a command of n nodes: its different uses, and how much it raises the total on the way
record J (j d : ℕ) (c : Cmd) (n : ℕ) : Type 0 where
  end : ends c ≤ n
  on : ways d c ≤ times j n

j_more : {j d : ℕ} {c : Cmd} {m : ℕ} (n : ℕ) → J j d c m → m ≤ n → J j d c n
j_more {j} {d} {c} {m} n p q = let a = p.end in let b = p.on in let t = times_mono j m n q in
    record { end = omega arith; on = omega arith }

j_skip : (j d : ℕ) → J j d skip 0
j_skip j d = record { end = omega arith; on = omega arith }

j_stop : (j d : ℕ) (w : Stop) → J j d (stop w) 0
j_stop j d w = record { end = omega arith; on = omega arith }

j_set : (j d : ℕ) (o : Sort) (s : Head) → J j d (set_of o s) 0
j_set j d o s = record { end = omega arith; on = omega arith }

j_use : (j d : ℕ) (s : Head) → J j d (use_of s) 1
j_use j d s = let t = times_le j 1 in record { end = omega arith; on = omega arith }

j_seq : {j d : ℕ} {a b : Cmd} {m n : ℕ} → J j d a m → J j d b n → J j d (a ⨟ b) (m + n)
j_seq {j} {d} {a} {b} {m} {n} p q =
    let e : ends (a ⨟ b) ≤ ends a + ends b = once_two same same_sound same_exact (gather use_key no_set whole a)
    (gather use_key no_set whole b) in
    let x = p.end in let y = q.end in let v = p.on in let w = q.on in let t = times_add j m n in let r = times_le j m in
    record { end = omega arith; on = omega arith }

j_branch : {j d : ℕ} {a b : Cmd} {m n : ℕ} → J j d a m → J j d b n → J j d (branch a b) (m + n)
j_branch {j} {d} {a} {b} {m} {n} p q =
    let e : ends (branch a b) ≤ ends a + ends b =
    once_two same same_sound same_exact (gather use_key no_set whole a) (gather use_key no_set whole b) in
    let x = p.end in let y = q.end in let v = p.on in let w = q.on in let t = times_add j m n in let r = times_le j m in let r' =
    times_le j n in
    record { end = omega arith; on = omega arith }

j_scope : {j d : ℕ} {c : Cmd} {n : ℕ} → J j d c n → J j d (scope c) n
j_scope {j} {d} {c} {n} p = let x = p.end in let v = p.on in let r = times_le j n in record { end = omega arith; on = omega arith }

-- a loop gone round twice, and once
loop_on : (b : Bool) (j e w n : ℕ) → e ≤ n → w ≤ times j n → again b e (max w e) ≤ times (suc j) n
loop_on true j e w n p q = let r = times_le j n in omega arith
loop_on false j e w n p q = let r = times_le j n in omega arith

j_twice : {j d : ℕ} {c : Cmd} {n : ℕ} → J j (suc d) c n → J (suc j) d (loop c) n
j_twice {j} {d} {c} {n} p = record { end = p.end; on = loop_on (leb (suc d) 5) j (ends c) (ways (suc d) c) n p.end p.on }

j_once : {j d : ℕ} {c : Cmd} {n : ℕ} → T (not (leb (suc d) 5)) → J j (suc d) c n → J j d (loop c) n
j_once {j} {d} {c} {n} t p = record { end = p.end; on = go (leb (suc d) 5) t }
  where
    go : (b : Bool) → T (not b) → again b (ends c) (max (ways (suc d) c) (ends c)) ≤ times j n
    go true u = absurd u
    go false u = let x = p.end in let v = p.on in let r = times_le j n in omega arith

-- the first of three a second time
j_again : {j d : ℕ} {a b c : Cmd} {m n l : ℕ} → J j d a m → J j d b n → J j d c l → J (suc j) d (a ⨟ (b ⨟ (a ⨟ c))) (m + (n + l))
j_again {j} {d} {a} {b} {c} {m} {n} {l} p q r =
    let e : ends (a ⨟ (b ⨟ (a ⨟ c))) ≤ ends a + (ends b + ends c) =
    once_again same same_sound same_exact (gather use_key no_set whole a) (gather use_key no_set whole b)
    (gather use_key no_set whole c) in
    let x = p.end in let y = q.end in let z = r.end in let v = p.on in let w = q.on in let i = r.on in
    let t : times j (m + (n + l)) ≡ times j m + times j (n + l) = times_add j m (n + l) in
    let t' : times j (n + l) ≡ times j n + times j l = times_add j n l in
    let s = times_le j m in let s' = times_le j n in let s'' = times_le j l in
    record { end = omega arith; on = omega arith }

-- two commands of n nodes together
record Both (j d : ℕ) (a b : Cmd) (n : ℕ) : Type 0 where
  x : ℕ
  y : ℕ
  fst : J j d a x
  snd : J j d b y
  fit : x + y ≤ n

-- how deep assign-modifies stand one in another
abbrev pub modified : Form → ℕ → ℕ
modified z n = case z ((Form.modify, suc n) ∷ []) n

abbrev pub modifies : Forest → ℕ
modifies leaf = 0
modifies (node h k s) = max (modified (form_of h) (modifies k)) (modifies s)

modified_le : (y : Form) (n : ℕ) → n ≤ modified y n
modified_le Form.breaking n = omega arith
modified_le Form.returning n = omega arith
modified_le Form.expression n = omega arith
modified_le Form.assign n = omega arith
modified_le Form.modify n = omega arith
modified_le Form.statements n = omega arith
modified_le Form.if n = omega arith
modified_le Form.if_else n = omega arith
modified_le Form.for n = omega arith
modified_le Form.def n = omega arith
modified_le Form.load n = omega arith
modified_le Form.identifier n = omega arith
modified_le Form.lambda n = omega arith
modified_le Form.comprehension n = omega arith
modified_le Form.plain n = omega arith

-- what binds sets, and uses nothing
bind_none : (j d : ℕ) (z : Bind) (h : Head) (down : ℕ → Cmd) → J j d (down 0) 0 → J j d (bind_part z h down) 0
bind_none j d (one o) h down p = j_set j d o h
bind_none j d several h down p = p
bind_none j d nothing h down p = j_skip j d

pick_none : (j d : ℕ) (b : Bool) (x p : Cmd) → J j d x 0 → J j d p 0 → J j d (picked b x p) 0
pick_none j d true x p e f = j_more 0 (j_seq e f) (omega arith)
pick_none j d false x p e f = f

binds_none : (j d ρ : ℕ) (x : Forest) → J j d (binds ρ x) 0
binds_none j d ρ leaf = j_skip j d
binds_none j d ρ (node h k s) = pick_none j d (eqb ρ h.role) (bind_part (bind_of h) h (λ v. binds v k)) (binds ρ s)
    (bind_none j d (bind_of h) h (λ v. binds v k) (binds_none j d 0 k)) (binds_none j d ρ s)

either_none : (j d : ℕ) (b : Bool) (w : Stop) → J j d (cond b (stop w) skip) 0
either_none j d true w = j_stop j d w
either_none j d false w = j_skip j d

module _ (is_fail : ℕ → Bool) where
  abbrev tk : Want → Forest → Cmd
  tk w x = takes is_fail w x

  record Claim (x : Forest) : Type 0 where
    by_role : (d j : ℕ) → (5 - d) + modifies x ≤ j → (ρ : ℕ) → Both j d (tk (of_role ρ) x) (uses ρ x) (role ρ x)
    all : (d j : ℕ) → (5 - d) + modifies x ≤ j → Both j d (tk every x) (uses 0 x) (nodes x)
    firsts : (d j : ℕ) → (5 - d) + modifies x ≤ j → Both j d (tk first_over x) (tk first_bound x) (role 0 x)
    later : (d j : ℕ) → (5 - d) + modifies x ≤ j → J j d (tk clauses x) (role 0 x)

  -- one role
  down : {k : Forest} → Claim k → (d j : ℕ) → (5 - d) + modifies k ≤ j → (ρ : ℕ) → J j d (tk (of_role ρ) k) (role ρ k)
  down {k} c d j p ρ = let b = c.by_role d j p ρ in let e = b.fit in j_more (role ρ k) b.fst (omega arith)

  -- a for statement, whether it goes round twice or once
  for_le : (k : Forest) → Claim k → (d j : ℕ) → (5 - d) + modifies k ≤ j → (b : Bool) → leb (suc d) 5 ≡ b
      → J j d (loop (tk (of_role 5) k ⨟ binds 5 k ⨟ tk (of_role 1) k)) (role 5 k + (0 + role 1 k))
  for_le k c d zero p true e = let r : suc d ≤ 5 = leb→le (suc d) 5 (subst T (sym e) tt) in absurd (let z : ⊥ = omega arith in z)
  for_le k c d (suc j) p true e = let r : suc d ≤ 5 = leb→le (suc d) 5 (subst T (sym e) tt) in let q : (5 - suc d) + modifies k ≤ j =
      omega arith in
      j_twice (j_seq (down c (suc d) j q 5) (j_seq (binds_none j (suc d) 5 k) (down c (suc d) j q 1)))
  for_le k c d j p false e = let q : (5 - suc d) + modifies k ≤ j = omega arith in
      j_once (subst (λ (b : Bool). T (not b)) (sym e) tt)
      (j_seq (down c (suc d) j q 5) (j_seq (binds_none j (suc d) 5 k) (down c (suc d) j q 1)))

  part_le : (y : Form) (h : Head) (k : Forest) → Claim k → (d j : ℕ) → (5 - d) + modified y (modifies k) ≤ j
      → J j d (part is_fail y h k (λ v. takes is_fail v k)) (suc (nodes k))
  part_le Form.breaking h k c d j p = j_more (suc (nodes k)) (j_stop j d (breaks (broken_by h))) (omega arith)
  part_le Form.returning h k c d j p = let r = roles_le (4 ∷ []) (tt, tt) k in
      j_more (suc (nodes k)) (j_seq (down c d j p 4) (j_stop j d (cond (has 4 k) valued (bare h)))) (omega arith)
  part_le Form.expression h k c d j p = let r = roles_le (4 ∷ []) (tt, tt) k in
      j_more (suc (nodes k)) (j_seq (down c d j p 4) (either_none j d (fail_called is_fail k) fails)) (omega arith)
  part_le Form.assign h k c d j p = let r = roles_le (3 ∷ 4 ∷ 5 ∷ []) (tt, (tt, (tt, tt))) k in
      j_more (suc (nodes k)) (j_seq (down c d j p 3) (j_seq (down c d j p 4) (j_seq (down c d j p 5) (binds_none j d 5 k)))) (omega arith)
  part_le Form.modify h k c d zero p = absurd (let z : ⊥ = omega arith in z)
  part_le Form.modify h k c d (suc j) p = let r = roles_le (4 ∷ 5 ∷ []) (tt, (tt, tt)) k in
      let q : (5 - d) + modifies k ≤ j = omega arith in let b = c.by_role d j q 5 in let e = b.fit in
      j_more (suc (nodes k)) (j_seq (down c d (suc j) (omega arith) 4) (j_again b.fst b.snd (binds_none j d 5 k))) (omega arith)
  part_le Form.statements h k c d j p = let r = roles_le (0 ∷ []) (tt, tt) k in j_more (suc (nodes k)) (down c d j p 0) (omega arith)
  part_le Form.if h k c d j p = let r = roles_le (4 ∷ 1 ∷ []) (tt, (tt, tt)) k in
      j_more (suc (nodes k)) (j_seq (down c d j p 4) (j_branch (down c d j p 1) (j_skip j d))) (omega arith)
  part_le Form.if_else h k c d j p = let r = roles_le (4 ∷ 1 ∷ 2 ∷ []) (tt, (tt, (tt, tt))) k in
      j_more (suc (nodes k)) (j_seq (down c d j p 4) (j_branch (down c d j p 1) (down c d j p 2))) (omega arith)
  part_le Form.for h k c d j p = let r = roles_le (4 ∷ 5 ∷ 1 ∷ []) (tt, (tt, (tt, tt))) k in
      j_more (suc (nodes k)) (j_seq (down c d j p 4) (for_le k c d j p (leb (suc d) 5) refl)) (omega arith)
  part_le Form.def h k c d j p = let r = roles_le (0 ∷ 3 ∷ 6 ∷ 1 ∷ []) (tt, (tt, (tt, (tt, tt)))) k in
      j_more (suc (nodes k)) (j_seq (down c d j p 0) (j_seq (down c d j p 3)
      (j_seq (binds_none j d 6 k) (j_scope (j_seq (binds_none j d 0 k) (down c d j p 1)))))) (omega arith)
  part_le Form.load h k c d j p = j_more (suc (nodes k)) (binds_none j d 0 k) (omega arith)
  part_le Form.identifier h k c d j p = j_more (suc (nodes k)) (j_use j d h) (omega arith)
  part_le Form.lambda h k c d j p = let r = roles_le (0 ∷ 1 ∷ []) (tt, (tt, tt)) k in
      j_more (suc (nodes k)) (j_seq (down c d j p 0) (j_scope (j_seq (binds_none j d 0 k) (down c d j p 1)))) (omega arith)
  part_le Form.comprehension h k c d j p = let r = roles_le (0 ∷ 8 ∷ 4 ∷ []) (tt, (tt, (tt, tt))) k in let b = c.firsts d j p in let e =
      b.fit in
      j_more (suc (nodes k)) (j_seq b.fst (j_scope (j_seq b.snd (j_seq (down c d j p 8) (down c d j p 4))))) (omega arith)
  part_le Form.plain h k c d j p = let b = c.all d j p in let e = b.fit in j_more (suc (nodes k)) b.fst (omega arith)

  -- a node, with the uses that it is as a target
  own_le : (z : Bind) (y : Form) (h : Head) (k : Forest) → Link z y → Claim k → (d j : ℕ) → (5 - d) + modified y (modifies k) ≤ j
      → Both j d (part is_fail y h k (λ v. takes is_fail v k)) (use_part z h (λ v. uses v k)) (suc (nodes k))
  own_le nothing y h k l c d j p = record { x = suc (nodes k); y = 0; fst = part_le y h k c d j p; snd = j_skip j d; fit = omega arith }
  own_le (one o) y h k l c d j p = let m = modified_le y (modifies k) in let b = c.all d j (omega arith) in let e = b.fit in
      subst (λ (v : Form). Both j d (part is_fail v h k (λ v. takes is_fail v k)) (use_of h) (suc (nodes k))) (sym l)
      (record { x = b.x; y = 1; fst = b.fst; snd = j_use j d h; fit = omega arith })
  own_le several y h k l c d j p = let m = modified_le y (modifies k) in let b = c.all d j (omega arith) in let e = b.fit in
      subst (λ (v : Form). Both j d (part is_fail v h k (λ v. takes is_fail v k)) (uses 0 k) (suc (nodes k))) (sym l)
      (record { x = b.x; y = b.y; fst = b.fst; snd = b.snd; fit = omega arith })

  pick_both : {j d : ℕ} {a b p q : Cmd} {n m : ℕ} (v : Bool) → Both j d a b n → Both j d p q m
      → Both j d (picked v a p) (picked v b q) (only v n + m)
  pick_both true s t = let e = s.fit in let f = t.fit in
      record { x = s.x + t.x; y = s.y + t.y; fst = j_seq s.fst t.fst; snd = j_seq s.snd t.snd; fit = omega arith }
  pick_both false s t = let f = t.fit in record { x = t.x; y = t.y; fst = t.fst; snd = t.snd; fit = omega arith }

  pick_whole : {j d : ℕ} {a b p q : Cmd} {n m : ℕ} (v : Bool) → Both j d a b n → Both j d p q m → Both j d (a ⨟ p) (picked v b q) (n + m)
  pick_whole true s t = let e = s.fit in let f = t.fit in
      record { x = s.x + t.x; y = s.y + t.y; fst = j_seq s.fst t.fst; snd = j_seq s.snd t.snd; fit = omega arith }
  pick_whole false s t = let e = s.fit in let f = t.fit in
      record { x = s.x + t.x; y = t.y; fst = j_seq s.fst t.fst; snd = t.snd; fit = omega arith }

  pick_one : {j d : ℕ} {a p : Cmd} {n m : ℕ} (v : Bool) → J j d a n → J j d p m → J j d (picked v a p) (only v n + m)
  pick_one true s t = j_seq s t
  pick_one {m = m} false s t = j_more (0 + m) t (omega arith)

  pick_first : {j d : ℕ} {a b p q : Cmd} {m : ℕ} (v : Bool) (n : ℕ) → Both j d a b (n + m) → Both j d p q m
      → Both j d (elim v as (λ z. Cmd) [ false ↦ p | true ↦ a ]) (elim v as (λ z. Cmd) [ false ↦ q | true ↦ b ]) (only v n + m)
  pick_first true n s t = s
  pick_first false n s t = let f = t.fit in record { x = t.x; y = t.y; fst = t.fst; snd = t.snd; fit = omega arith }

  claim_node : (h : Head) (k s : Forest) → Claim k → Claim s → Claim (node h k s)
  unfolding role
  claim_node h k s c e = record {
    by_role = λ d j p ρ. pick_both (eqb ρ h.role) (own_le (bind_of h) (form_of h) h k (linked h.kind) c d j (omega arith))
        (e.by_role d j (omega arith) ρ);
    all = λ d j p. pick_whole (eqb 0 h.role) (own_le (bind_of h) (form_of h) h k (linked h.kind) c d j (omega arith))
        (e.all d j (omega arith));
    firsts = λ d j p. let m = modified_le (form_of h) (modifies k) in let q : (5 - d) + modifies k ≤ j = omega arith in let r =
        roles_le (4 ∷ 5 ∷ []) (tt, (tt, tt)) k in
        pick_first (eqb 0 h.role) (suc (nodes k)) (record {
          x = role 4 k;
          y = role 5 k + (0 + role 0 s);
          fst = down c d j q 4;
          snd = j_seq (down c d j q 5) (j_seq (binds_none j d 5 k) (e.later d j (omega arith)));
          fit = omega arith;
        }) (e.firsts d j (omega arith));
    later = λ d j p. let m = modified_le (form_of h) (modifies k) in let q : (5 - d) + modifies k ≤ j = omega arith in let r =
        roles_le (4 ∷ 5 ∷ []) (tt, (tt, tt)) k in
        pick_one (eqb 0 h.role) (j_more (suc (nodes k)) (j_seq (down c d j q 4) (j_seq (down c d j q 5) (binds_none j d 5 k)))
        (omega arith)) (e.later d j (omega arith));
  }

  claim : (x : Forest) → Claim x
  unfolding role
  claim leaf = record {
    by_role = λ d j p ρ. record { x = 0; y = 0; fst = j_skip j d; snd = j_skip j d; fit = omega arith };
    all = λ d j p. record { x = 0; y = 0; fst = j_skip j d; snd = j_skip j d; fit = omega arith };
    firsts = λ d j p. record { x = 0; y = 0; fst = j_skip j d; snd = j_skip j d; fit = omega arith };
    later = λ d j p. j_skip j d;
  }
  claim (node h k s) = claim_node h k s (claim k) (claim s)

  pub body_way : (x : Forest) → way same use_key no_set whole 0 (body is_fail x) ≤ times (5 + modifies x) (nodes x)
  body_way x = let j = down (claim x) 0 (5 + modifies x) (omega arith) 0 in let a = j.on in let r : role 0 x + 0 ≤ nodes x =
      roles_le (0 ∷ []) (tt, tt) x in
      let t : times (5 + modifies x) (role 0 x) ≤ times (5 + modifies x) (nodes x) =
      times_mono (5 + modifies x) (role 0 x) (nodes x) (omega arith) in omega arith

-- THE BOUND of a tree: at every moment, over all open scopes, at most six times the nodes, and as often again as assign-modifies stand one in another
module _ (u is_fail : ℕ → Bool) (x : Forest) where
  pub unbound_nodes : Every u (λ m. total unbound_in m ≤ times (5 + modifies x) (nodes x)) 0 (body is_fail x) start
  unbound_nodes = let p = body_way is_fail x in
      tour_way same same_sound same_exact use_key no_set whole unbound_in unbound_laws u (body is_fail x) 0
      (times (5 + modifies x) (nodes x)) start tt (omega arith)

  pub unbound_seven : modifies x ≤ 1 → Every u (λ m. total unbound_in m ≤ 7 * nodes x) 0 (body is_fail x) start
  unbound_seven h = let p = body_way is_fail x in let q : times (5 + modifies x) (nodes x) ≤ times 6 (nodes x) =
      fewer (5 + modifies x) 6 (nodes x) (omega arith) in
      tour_way same same_sound same_exact use_key no_set whole unbound_in unbound_laws u (body is_fail x) 0 (7 * nodes x) start tt
      (omega arith)
