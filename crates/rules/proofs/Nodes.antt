-- How much the walk with marks holds of a tree: over all open scopes no more entries than nodes, and no more can't-set uses.
use Prim.Native.Nat.{ℕ, suc, ◌+◌, ◌≤◌}
use native.Mathlib.Omega.{arith}
use mathlib.Core.Path.{◌≡◌, refl, sym, subst}
use mathlib.Core.Bool.{Bool, true, false, not, cond}
use mathlib.Core.List.{List, [], ◌∷◌, ◌++◌}
use lib.Dec.{eqb, T, eqb→eq, eqb_refl, T_not}
use lib.ListN.{length, length-append}
use Rattle.tree.specs.Forest.{Spot, Head, Forest, Forest.none as leaf, node}
use Rattle.rules.specs.Visit.{has}
use Rattle.rules.specs.Order.{Form, form_of, fail_called, Stop, Sort, Cmd, breaks, bare, valued, fails, skip, ◌⨟◌, use_of, set_of, stop, branch, loop, scope, Bind, one, several, nothing, bind_of, bind_part, use_part, binds, uses, Want, of_role, every, first_over, first_bound, clauses, picked, part, takes, body, broken_by}
use Rattle.rules.specs.Names.{same}
use Rattle.rules.specs.code.Marks.{inside, same_setting, total, start, Every, settings_in, cant_in, nodes}
use Rattle.rules.proofs.Once.{once, inside_from}
use Rattle.rules.proofs.Lean.{setting_sound, setting_exact}
use Rattle.rules.proofs.Spots.{same_sound, same_exact}
use Rattle.rules.proofs.Bounds.{Sub, Plain, pigeon, plain_adds, sub_adds, gather, most, deep, tour_fits, once_length, no_use, no_set, set_key, use_key, settings_laws, cant_laws, inside_split, inside_left, inside_right}
use Rattle.rules.proofs.Unique.{only}
use Rattle.rules.proofs.Look.{Link, linked}
use Rattle.rules.proofs.Bools.{nor_left, nor_right}

unfoldable pub role : ℕ → Forest → ℕ
role ρ leaf = 0
role ρ (node h k s) = only (eqb ρ h.role) (suc (nodes k)) + role ρ s

abbrev pub roles : List ℕ → Forest → ℕ
roles [] f = 0
roles (ρ ∷ ρs) f = role ρ f + roles ρs f

abbrev hit : List ℕ → ℕ → ℕ → ℕ
hit [] r x = 0
hit (ρ ∷ ρs) r x = only (eqb ρ r) x + hit ρs r x

only_not : (b : Bool) (x : ℕ) → T (not b) → only b x ≤ 0
only_not true x t = absurd t
only_not false x t = omega arith

eqb_swap : (a b : ℕ) → T (not (eqb a b)) → T (not (eqb b a))
eqb_swap a b t = go (eqb b a) refl
  where
    go : (x : Bool) → eqb b a ≡ x → T (not x)
    go true e = absurd (T_not (eqb a a) (subst (λ (c : ℕ). T (not (eqb a c))) (eqb→eq b a (subst T (sym e) tt)) t) (eqb_refl a))
    go false e = tt

hit_none : (ρs : List ℕ) (r x : ℕ) → T (not (inside eqb r ρs)) → hit ρs r x ≤ 0
hit_none [] r x t = omega arith
hit_none (ρ ∷ ρs) r x t = let p : only (eqb ρ r) x ≤ 0 = only_not (eqb ρ r) x (eqb_swap r ρ (nor_left (eqb r ρ) (inside eqb r ρs) t)) in
    let q : hit ρs r x ≤ 0 = hit_none ρs r x (nor_right (eqb r ρ) (inside eqb r ρs) t) in omega arith

hit_le : (ρs : List ℕ) (r x : ℕ) → Plain eqb ρs → hit ρs r x ≤ x
hit_le [] r x p = omega arith
hit_le (ρ ∷ ρs) r x p = go (eqb ρ r) refl (hit_le ρs r x p.1)
  where
    go : (b : Bool) → eqb ρ r ≡ b → hit ρs r x ≤ x → only b x + hit ρs r x ≤ x
    go true e q = let z : hit ρs r x ≤ 0 = hit_none ρs r x (subst (λ (n : ℕ). T (not (inside eqb n ρs))) (eqb→eq ρ r (subst T (sym e) tt))
        p.0) in omega arith
    go false e q = omega arith

roles_node : (ρs : List ℕ) (h : Head) (k s : Forest) → roles ρs (node h k s) ≡ hit ρs h.role (suc (nodes k)) + roles ρs s
unfolding role
roles_node [] h k s = refl
roles_node (ρ ∷ ρs) h k s = let p : roles ρs (node h k s) ≡ hit ρs h.role (suc (nodes k)) + roles ρs s = roles_node ρs h k s in
    omega arith

pub roles_le : (ρs : List ℕ) → Plain eqb ρs → (f : Forest) → roles ρs f ≤ nodes f
unfolding role
roles_le ρs p leaf = go ρs
  where
    go : (l : List ℕ) → roles l leaf ≤ 0
    go [] = omega arith
    go (x ∷ l) = let q : roles l leaf ≤ 0 = go l in omega arith
roles_le ρs p (node h k s) = let a : hit ρs h.role (suc (nodes k)) ≤ suc (nodes k) = hit_le ρs h.role (suc (nodes k)) p in
    let b : roles ρs s ≤ nodes s = roles_le ρs p s in let c : roles ρs (node h k s) ≡ hit ρs h.role (suc (nodes k)) + roles ρs s =
    roles_node ρs h k s in omega arith

module _ {K : Type 0} (eq : K → K → Bool) (sound : (a b : K) → T (eq a b) → a ≡ b) (exact : (a : K) → T (eq a a)) where
  -- how many different ones two lists have together
  into_once : (l : List K) → Sub eq l (once eq l)
  into_once l a t = inside_from eq sound exact a l [] t

  once_plain : (l : List K) → Plain eq (once eq l)
  once_plain l = plain_adds eq sound exact l [] tt

  once_le : (l k : List K) → Sub eq l k → length (once eq l) ≤ length k
  once_le l k h = pigeon eq sound exact (once eq l) k (once_plain l) (sub_adds eq sound exact l [] k h (λ a t. absurd t))

  pub once_two : (l k : List K) → length (once eq (l ++ k)) ≤ length (once eq l) + length (once eq k)
  once_two l k = let e : length (once eq l ++ once eq k) ≡ length (once eq l) + length (once eq k) =
      length-append (once eq l) (once eq k) in
      let p : length (once eq (l ++ k)) ≤ length (once eq l ++ once eq k) = once_le (l ++ k) (once eq l ++ once eq k)
      (λ a t. inside_split eq a l k (λ v. inside_left eq a (once eq l) (once eq k) (into_once l a v))
      (λ v. inside_right eq a (once eq l) (once eq k) (into_once k a v)) t) in omega arith

  -- one of them a second time
  pub once_again : (l m k : List K) → length (once eq (l ++ (m ++ (l ++ k)))) ≤ length (once eq l) +
      (length (once eq m) + length (once eq k))
  once_again l m k =
      let b = once eq l ++ (once eq m ++ once eq k) in
      let e : length (once eq l ++ (once eq m ++ once eq k)) ≡ length (once eq l) + length (once eq m ++ once eq k) =
      length-append (once eq l) (once eq m ++ once eq k) in
      let e' : length (once eq m ++ once eq k) ≡ length (once eq m) + length (once eq k) = length-append (once eq m) (once eq k) in
      let x : Sub eq l b = λ a t. inside_left eq a (once eq l) (once eq m ++ once eq k) (into_once l a t) in
      let y : Sub eq m b = λ a t. inside_right eq a (once eq l) (once eq m ++ once eq k)
      (inside_left eq a (once eq m) (once eq k) (into_once m a t)) in
      let z : Sub eq k b = λ a t. inside_right eq a (once eq l) (once eq m ++ once eq k)
      (inside_right eq a (once eq m) (once eq k) (into_once k a t)) in
      let p : length (once eq (l ++ (m ++ (l ++ k)))) ≤ length (once eq l ++ (once eq m ++ once eq k)) = once_le (l ++ (m ++ (l ++ k))) b
      (λ a t. inside_split eq a l (m ++ (l ++ k)) (x a) (inside_split eq a m (l ++ k) (y a) (inside_split eq a l k (x a) (z a))) t) in
      omega arith

  module _ (f : Spot → List K) (g : Sort → Spot → List K) where
    -- what a command has a scope and the scopes in it hold at most
    pub weight : Cmd → ℕ
    weight c = most eq f g no_use c + deep eq f g no_use c

    weight_skip : weight skip ≡ 0
    unfolding weight
    weight_skip = refl

    weight_stop : (w : Stop) → weight (stop w) ≡ 0
    unfolding weight
    weight_stop w = refl

    weight_use : (a : Head) → weight (use_of a) ≤ length (f a.spot)
    unfolding weight
    weight_use a = let p : length (once eq (f a.spot)) ≤ length (f a.spot) = once_length eq (f a.spot) in omega arith

    weight_set : (o : Sort) (a : Head) → weight (set_of o a) ≤ length (g o a.spot)
    unfolding weight
    weight_set o a = let p : length (once eq (g o a.spot)) ≤ length (g o a.spot) = once_length eq (g o a.spot) in omega arith

    weight_seq : (a b : Cmd) → weight (a ⨟ b) ≤ weight a + weight b
    unfolding weight
    weight_seq a b = let p : length (once eq (gather f g no_use a ++ gather f g no_use b)) ≤ most eq f g no_use a + most eq f g no_use b =
        once_two (gather f g no_use a) (gather f g no_use b) in omega arith

    weight_branch : (a b : Cmd) → weight (branch a b) ≤ weight a + weight b
    unfolding weight
    weight_branch a b = let p : length (once eq (gather f g no_use a ++ gather f g no_use b)) ≤ most eq f g no_use a
        + most eq f g no_use b = once_two (gather f g no_use a) (gather f g no_use b) in omega arith

    weight_loop : (c : Cmd) → weight (loop c) ≡ weight c
    unfolding weight
    weight_loop c = refl

    weight_scope : (c : Cmd) → weight (scope c) ≡ weight c
    unfolding weight
    weight_scope c = omega arith

    weight_again : (a b c : Cmd) → weight (a ⨟ (b ⨟ (a ⨟ c))) ≤ weight a + (weight b + weight c)
    unfolding weight
    weight_again a b c = let p : length (once eq (gather f g no_use a ++ (gather f g no_use b
        ++ (gather f g no_use a ++ gather f g no_use c)))) ≤ most eq f g no_use a + (most eq f g no_use b + most eq f g no_use c)
        = once_again (gather f g no_use a) (gather f g no_use b) (gather f g no_use c) in omega arith

    weight_either : (b : Bool) (w : Stop) → weight (cond b (stop w) skip) ≡ 0
    weight_either true w = weight_stop w
    weight_either false w = weight_skip

    module _ (is_fail : ℕ → Bool) (small : (s : Spot) (o : Sort) → length (f s) + length (g o s) ≤ 1) where
      abbrev W : Want → Forest → ℕ
      W w x = weight (takes is_fail w x)

      record Claim (x : Forest) : Type 0 where
        by_role : (ρ : ℕ) → W (of_role ρ) x + (weight (uses ρ x) + weight (binds ρ x)) ≤ role ρ x
        whole : W every x + (weight (uses 0 x) + weight (binds 0 x)) ≤ nodes x
        firsts : W first_over x + W first_bound x ≤ role 0 x
        later : W clauses x ≤ role 0 x

      two : (a b : Cmd) (x y : ℕ) → weight a ≤ x → weight b ≤ y → weight (a ⨟ b) ≤ x + y
      two a b x y p q = let r : weight (a ⨟ b) ≤ weight a + weight b = weight_seq a b in omega arith

      part_le : (y : Form) (h : Head) (k : Forest) → Claim k → weight (part is_fail y h k (λ v. takes is_fail v k)) ≤ suc (nodes k)
      part_le Form.breaking h k c = let e = weight_stop (breaks (broken_by h)) in omega arith
      part_le Form.returning h k c = let e = weight_stop (cond (has 4 k) valued (bare h)) in let s =
          weight_seq (takes is_fail (of_role 4) k) (stop (cond (has 4 k) valued (bare h))) in
          let a = c.by_role 4 in let r = roles_le (4 ∷ []) (tt, tt) k in omega arith
      part_le Form.expression h k c = let e = weight_either (fail_called is_fail k) fails in let s =
          weight_seq (takes is_fail (of_role 4) k) (cond (fail_called is_fail k) (stop fails) skip) in
          let a = c.by_role 4 in let r = roles_le (4 ∷ []) (tt, tt) k in omega arith
      part_le Form.assign h k c =
          let s1 = weight_seq (takes is_fail (of_role 3) k) (takes is_fail (of_role 4) k ⨟ takes is_fail (of_role 5) k ⨟ binds 5 k) in
          let s2 = weight_seq (takes is_fail (of_role 4) k) (takes is_fail (of_role 5) k ⨟ binds 5 k) in
          let s3 = weight_seq (takes is_fail (of_role 5) k) (binds 5 k) in
          let a = c.by_role 3 in let b = c.by_role 4 in let d = c.by_role 5 in let r =
          roles_le (3 ∷ 4 ∷ 5 ∷ []) (tt, (tt, (tt, tt))) k in omega arith
      part_le Form.modify h k c =
          let s1 = weight_seq (takes is_fail (of_role 4) k)
          (takes is_fail (of_role 5) k ⨟ uses 5 k ⨟ takes is_fail (of_role 5) k ⨟ binds 5 k) in
          let s2 = weight_again (takes is_fail (of_role 5) k) (uses 5 k) (binds 5 k) in
          let b = c.by_role 4 in let d = c.by_role 5 in let r = roles_le (4 ∷ 5 ∷ []) (tt, (tt, tt)) k in omega arith
      part_le Form.statements h k c = let a = c.by_role 0 in let r = roles_le (0 ∷ []) (tt, tt) k in omega arith
      part_le Form.if h k c =
          let s1 = weight_seq (takes is_fail (of_role 4) k) (branch (takes is_fail (of_role 1) k) skip) in let s2 =
          weight_branch (takes is_fail (of_role 1) k) skip in let e = weight_skip in
          let a = c.by_role 4 in let b = c.by_role 1 in let r = roles_le (4 ∷ 1 ∷ []) (tt, (tt, tt)) k in omega arith
      part_le Form.if_else h k c =
          let s1 = weight_seq (takes is_fail (of_role 4) k) (branch (takes is_fail (of_role 1) k) (takes is_fail (of_role 2) k)) in let s2 =
          weight_branch (takes is_fail (of_role 1) k) (takes is_fail (of_role 2) k) in
          let a = c.by_role 4 in let b = c.by_role 1 in let d = c.by_role 2 in let r =
          roles_le (4 ∷ 1 ∷ 2 ∷ []) (tt, (tt, (tt, tt))) k in omega arith
      part_le Form.for h k c =
          let s1 = weight_seq (takes is_fail (of_role 4) k)
          (loop (takes is_fail (of_role 5) k ⨟ binds 5 k ⨟ takes is_fail (of_role 1) k)) in
          let s2 = weight_loop (takes is_fail (of_role 5) k ⨟ binds 5 k ⨟ takes is_fail (of_role 1) k) in
          let s3 = weight_seq (takes is_fail (of_role 5) k) (binds 5 k ⨟ takes is_fail (of_role 1) k) in let s4 =
          weight_seq (binds 5 k) (takes is_fail (of_role 1) k) in
          let a = c.by_role 4 in let b = c.by_role 5 in let d = c.by_role 1 in let r =
          roles_le (4 ∷ 5 ∷ 1 ∷ []) (tt, (tt, (tt, tt))) k in omega arith
      part_le Form.def h k c =
          let s1 = weight_seq (takes is_fail (of_role 0) k)
          (takes is_fail (of_role 3) k ⨟ binds 6 k ⨟ scope (binds 0 k ⨟ takes is_fail (of_role 1) k)) in
          let s2 = weight_seq (takes is_fail (of_role 3) k) (binds 6 k ⨟ scope (binds 0 k ⨟ takes is_fail (of_role 1) k)) in
          let s3 = weight_seq (binds 6 k) (scope (binds 0 k ⨟ takes is_fail (of_role 1) k)) in
          let s4 = weight_scope (binds 0 k ⨟ takes is_fail (of_role 1) k) in let s5 =
          weight_seq (binds 0 k) (takes is_fail (of_role 1) k) in
          let a = c.by_role 0 in let b = c.by_role 3 in let d = c.by_role 6 in let e = c.by_role 1 in let r =
          roles_le (0 ∷ 3 ∷ 6 ∷ 1 ∷ []) (tt, (tt, (tt, (tt, tt)))) k in omega arith
      part_le Form.load h k c = let a = c.by_role 0 in let r = roles_le (0 ∷ []) (tt, tt) k in omega arith
      part_le Form.identifier h k c = let a = weight_use h in let b = small h.spot Sort.load in omega arith
      part_le Form.lambda h k c =
          let s1 = weight_seq (takes is_fail (of_role 0) k) (scope (binds 0 k ⨟ takes is_fail (of_role 1) k)) in
          let s4 = weight_scope (binds 0 k ⨟ takes is_fail (of_role 1) k) in let s5 =
          weight_seq (binds 0 k) (takes is_fail (of_role 1) k) in
          let a = c.by_role 0 in let e = c.by_role 1 in let r = roles_le (0 ∷ 1 ∷ []) (tt, (tt, tt)) k in omega arith
      part_le Form.comprehension h k c =
          let s1 = weight_seq (takes is_fail first_over k)
          (scope (takes is_fail first_bound k ⨟ takes is_fail (of_role 8) k ⨟ takes is_fail (of_role 4) k)) in
          let s2 = weight_scope (takes is_fail first_bound k ⨟ takes is_fail (of_role 8) k ⨟ takes is_fail (of_role 4) k) in
          let s3 = weight_seq (takes is_fail first_bound k) (takes is_fail (of_role 8) k ⨟ takes is_fail (of_role 4) k) in
          let s4 = weight_seq (takes is_fail (of_role 8) k) (takes is_fail (of_role 4) k) in
          let a = c.firsts in let b = c.by_role 8 in let d = c.by_role 4 in let r = roles_le (0 ∷ 8 ∷ 4 ∷ []) (tt, (tt, (tt, tt))) k in
          omega arith
      part_le Form.plain h k c = let a = c.whole in omega arith

      -- a node, with what it binds or is a use of as a target
      own_le : (z : Bind) (y : Form) (h : Head) (k : Forest) → Link z y → Claim k
          → weight (part is_fail y h k (λ v. takes is_fail v k)) +
          (weight (use_part z h (λ v. uses v k)) + weight (bind_part z h (λ v. binds v k))) ≤ suc (nodes k)
      own_le nothing y h k l c = let a = part_le y h k c in let e = weight_skip in omega arith
      own_le (one o) y h k l c = subst (λ (v : Form). weight (part is_fail v h k (λ v. takes is_fail v k)) +
          (weight (use_of h) + weight (set_of o h)) ≤ suc (nodes k)) (sym l)
          (let a = c.whole in let p = weight_use h in let q = weight_set o h in let r = small h.spot o in omega arith)
      own_le several y h k l c = subst (λ (v : Form). weight (part is_fail v h k (λ v. takes is_fail v k)) +
          (weight (uses 0 k) + weight (binds 0 k)) ≤ suc (nodes k)) (sym l)
          (let a = c.whole in omega arith)

      pick_three : (b : Bool) (x y z p q r : Cmd) (n m : ℕ) → weight x + (weight y + weight z) ≤ n → weight p + (weight q + weight r) ≤ m
          → weight (picked b x p) + (weight (picked b y q) + weight (picked b z r)) ≤ only b n + m
      pick_three true x y z p q r n m e d = let s = weight_seq x p in let t = weight_seq y q in let v = weight_seq z r in omega arith
      pick_three false x y z p q r n m e d = omega arith

      pick_two : (b : Bool) (x y z p q r : Cmd) (n m : ℕ) → weight x + (weight y + weight z) ≤ n → weight p + (weight q + weight r) ≤ m
          → weight (x ⨟ p) + (weight (picked b y q) + weight (picked b z r)) ≤ n + m
      pick_two true x y z p q r n m e d = let s = weight_seq x p in let t = weight_seq y q in let v = weight_seq z r in omega arith
      pick_two false x y z p q r n m e d = let s = weight_seq x p in omega arith

      pick_one : (b : Bool) (x p : Cmd) (n m : ℕ) → weight x ≤ n → weight p ≤ m → weight (picked b x p) ≤ only b n + m
      pick_one true x p n m e d = two x p n m e d
      pick_one false x p n m e d = omega arith

      pick_first : (b : Bool) (x y p q : Cmd) (n m : ℕ) → weight x + weight y ≤ n + m → weight p + weight q ≤ m
          → weight (elim b as (λ v. Cmd) [ false ↦ p | true ↦ x ]) + weight (elim b as (λ v. Cmd) [ false ↦ q | true ↦ y ]) ≤ only b n + m
      pick_first true x y p q n m e d = e
      pick_first false x y p q n m e d = omega arith

      claim_node : (h : Head) (k s : Forest) → Claim k → Claim s → Claim (node h k s)
      unfolding role
      claim_node h k s c d = record {
        by_role = λ ρ. pick_three (eqb ρ h.role) (part is_fail (form_of h) h k (λ v. takes is_fail v k))
            (use_part (bind_of h) h (λ v. uses v k)) (bind_part (bind_of h) h (λ v. binds v k))
            (takes is_fail (of_role ρ) s) (uses ρ s) (binds ρ s) (suc (nodes k)) (role ρ s)
            (own_le (bind_of h) (form_of h) h k (linked h.kind) c) (d.by_role ρ);
        whole = pick_two (eqb 0 h.role) (part is_fail (form_of h) h k (λ v. takes is_fail v k)) (use_part (bind_of h) h (λ v. uses v k))
            (bind_part (bind_of h) h (λ v. binds v k))
            (takes is_fail every s) (uses 0 s) (binds 0 s) (suc (nodes k)) (nodes s)
            (own_le (bind_of h) (form_of h) h k (linked h.kind) c) d.whole;
        firsts = pick_first (eqb 0 h.role) (takes is_fail (of_role 4) k)
            (takes is_fail (of_role 5) k ⨟ binds 5 k ⨟ takes is_fail clauses s) (takes is_fail first_over s) (takes is_fail first_bound s)
            (suc (nodes k)) (role 0 s)
            (let s1 = weight_seq (takes is_fail (of_role 5) k) (binds 5 k ⨟ takes is_fail clauses s) in
            let s2 = weight_seq (binds 5 k) (takes is_fail clauses s) in
            let a = c.by_role 4 in let b = c.by_role 5 in let e = d.later in let r = roles_le (4 ∷ 5 ∷ []) (tt, (tt, tt)) k in
            omega arith) d.firsts;
        later = pick_one (eqb 0 h.role) (takes is_fail (of_role 4) k ⨟ takes is_fail (of_role 5) k ⨟ binds 5 k)
            (takes is_fail clauses s) (suc (nodes k)) (role 0 s)
            (let s1 = weight_seq (takes is_fail (of_role 4) k) (takes is_fail (of_role 5) k ⨟ binds 5 k) in
            let s2 = weight_seq (takes is_fail (of_role 5) k) (binds 5 k) in
            let a = c.by_role 4 in let b = c.by_role 5 in let r = roles_le (4 ∷ 5 ∷ []) (tt, (tt, tt)) k in omega arith) d.later;
      }

      claim : (x : Forest) → Claim x
      unfolding role
      claim leaf = let e = weight_skip in record {
        by_role = λ ρ. omega arith;
        whole = omega arith;
        firsts = omega arith;
        later = omega arith;
      }
      claim (node h k s) = claim_node h k s (claim k) (claim s)

      pub body_weight : (x : Forest) → most eq f g no_use (body is_fail x) + deep eq f g no_use (body is_fail x) ≤ nodes x
      unfolding weight
      body_weight x = let a : weight (body is_fail x) + (weight (uses 0 x) + weight (binds 0 x)) ≤ role 0 x = (claim x).by_role 0 in
          let r : role 0 x + 0 ≤ nodes x = roles_le (0 ∷ []) (tt, tt) x in omega arith

-- THE BOUNDS of a tree
module _ (u is_fail : ℕ → Bool) (x : Forest) where
  pub entries_nodes : Every u (λ m. total settings_in m ≤ nodes x) 0 (body is_fail x) start
  entries_nodes = let c = body is_fail x in let p : most same_setting no_use set_key no_use c
      + deep same_setting no_use set_key no_use c ≤ nodes x
      = body_weight same_setting setting_sound setting_exact no_use set_key is_fail (λ s o. omega arith) x in
      tour_fits same_setting setting_sound setting_exact no_use set_key no_use settings_in settings_laws u c 0 (nodes x)
      (once same_setting (gather no_use set_key no_use c)) start
      (into_once same_setting setting_sound setting_exact (gather no_use set_key no_use c)) (record { plain = tt; sub = λ a t. absurd t })
      (omega arith)

  pub cant_nodes : Every u (λ m. total cant_in m ≤ nodes x) 0 (body is_fail x) start
  cant_nodes = let c = body is_fail x in let p : most same use_key no_set no_use c + deep same use_key no_set no_use c ≤ nodes x
      = body_weight same same_sound same_exact use_key no_set is_fail (λ s o. omega arith) x in
      tour_fits same same_sound same_exact use_key no_set no_use cant_in cant_laws u c 0 (nodes x)
      (once same (gather use_key no_set no_use c)) start
      (into_once same same_sound same_exact (gather use_key no_set no_use c)) (record { plain = tt; sub = λ a t. absurd t }) (omega arith)
