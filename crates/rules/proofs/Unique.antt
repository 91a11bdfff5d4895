-- Where no two nodes that hold a name share span and name: a place stands in one scope.
use Prim.Native.Nat.{ℕ, ◌+◌, ◌≤◌}
use native.Mathlib.Omega.{arith}
use mathlib.Core.Path.{◌≡◌, refl, sym, subst}
use mathlib.Core.Bool.{Bool, true, false, cond, ◌&&◌, ◌||◌, not}
use mathlib.Core.List.{[], ◌∷◌}
use mathlib.Core.Logic.{◌⊎◌, inl, inr}
use lib.Dec.{eqb, T, eqb→eq}
use Rattle.tree.specs.Forest.{Spot, Head, Forest, Forest.none as leaf, node}
use Rattle.rules.specs.Order.{Form, form_of, fail_called, Cmd, fails, skip, ◌⨟◌, use_of, set_of, stop, branch, loop, scope, Want, of_role, every, first_over, first_bound, clauses, picked, part, takes, binds, uses, Bind, one, several, nothing, bind_of, bind_part, use_part}
use Rattle.rules.specs.Names.{same}
use Rattle.rules.proofs.Look.{Link, linked, case}
use Rattle.rules.proofs.Bools.{and_left, and_right}

-- how many nodes that hold a name stand at s: identifiers, and what binds
abbrev pub hit : Bool → ℕ
hit true = 1
hit false = 0

abbrev pub ident_hit : Form → Spot → Head → ℕ
ident_hit z s h = case z ((Form.identifier, hit (same s h.spot)) ∷ []) 0

abbrev pub bind_hit : Bind → Spot → Head → ℕ
bind_hit (one o) s h = hit (same s h.spot)
bind_hit several s h = 0
bind_hit nothing s h = 0

abbrev pub me : Spot → Head → ℕ
me s h = ident_hit (form_of h) s h + bind_hit (bind_of h) s h

abbrev pub count : Spot → Forest → ℕ
count s leaf = 0
count s (node h k r) = me s h + (count s k + count s r)

abbrev pub only : Bool → ℕ → ℕ
only true n = n
only false n = 0

-- the same, of the nodes of a role and what is below them
abbrev pub tally : Spot → ℕ → Forest → ℕ
tally s ρ leaf = 0
tally s ρ (node h k r) = only (eqb ρ h.role) (me s h + count s k) + tally s ρ r

-- where the nodes of a list of children stand: in the scope, in a nested one; a parameter, whose name is in the nested one; a comprehension's first clause
data Level : Type 0 where
  in_it out_of_it split clause : Level

data Levels : Type 0 where
  all_in all_out as_def as_comp as_clause : Levels

abbrev level : Levels → ℕ → Level
level all_in r = in_it
level all_out r = out_of_it
level as_def r = cond (eqb 0 r) split (cond (eqb 1 r) out_of_it in_it)
level as_comp r = cond (eqb 0 r) clause out_of_it
level as_clause r = cond (eqb 4 r) in_it out_of_it

-- what holds of the later siblings
abbrev after : Levels → ℕ → Levels
after all_in r = all_in
after all_out r = all_out
after as_def r = as_def
after as_comp r = cond (eqb 0 r) all_out as_comp
after as_clause r = as_clause

abbrev inside : Form → Levels
inside z = case z ((Form.def, as_def) ∷ (Form.lambda, as_def) ∷ (Form.comprehension, as_comp) ∷ []) all_in

abbrev own_step : Level → ℕ → ℕ → ℕ → ℕ → ℕ
own_step in_it i b x c = i + (b + x)
own_step out_of_it i b x c = 0
own_step split i b x c = i + x
own_step clause i b x c = c

abbrev inn_step : Level → ℕ → ℕ → ℕ → ℕ → ℕ → ℕ
inn_step in_it i b x c n = x
inn_step out_of_it i b x c n = i + (b + n)
inn_step split i b x c n = b + x
inn_step clause i b x c n = i + (b + c)

abbrev own : Spot → Levels → Forest → ℕ
own s l leaf = 0
own s l (node h k r) = own_step (level l h.role) (ident_hit (form_of h) s h) (bind_hit (bind_of h) s h) (own s (inside (form_of h)) k)
    (own s as_clause k) + own s (after l h.role) r

abbrev inn : Spot → Levels → Forest → ℕ
inn s l leaf = 0
inn s l (node h k r) = inn_step (level l h.role) (ident_hit (form_of h) s h) (bind_hit (bind_of h) s h) (inn s (inside (form_of h)) k)
    (inn s as_clause k) (count s k) + inn s (after l h.role) r

step_sum : (v : Level) (i b x c x' c' n : ℕ) → x + x' ≤ n → c + c' ≤ n → own_step v i b x c + inn_step v i b x' c' n ≤ (i + b) + n
step_sum in_it i b x c x' c' n p q = omega arith
step_sum out_of_it i b x c x' c' n p q = omega arith
step_sum split i b x c x' c' n p q = omega arith
step_sum clause i b x c x' c' n p q = omega arith

sum_le : (a b c d m n : ℕ) → a + b ≤ m → c + d ≤ n → (a + c) + (b + d) ≤ m + n
sum_le a b c d m n p q = omega arith

add_assoc_le : (x a b c : ℕ) → x ≤ (a + b) + c → x ≤ a + (b + c)
add_assoc_le x a b c p = omega arith

-- each place is counted once
own_inn : (s : Spot) (l : Levels) (f : Forest) → own s l f + inn s l f ≤ count s f
own_inn s l leaf = omega arith
own_inn s l (node h k r) = add_assoc_le (own s l (node h k r) + inn s l (node h k r)) (me s h) (count s k) (count s r)
    (sum_le (own_step (level l h.role) (ident_hit (form_of h) s h) (bind_hit (bind_of h) s h) (own s (inside (form_of h)) k)
    (own s as_clause k))
    (inn_step (level l h.role) (ident_hit (form_of h) s h) (bind_hit (bind_of h) s h) (inn s (inside (form_of h)) k) (inn s as_clause k)
    (count s k))
    (own s (after l h.role) r) (inn s (after l h.role) r) (me s h + count s k) (count s r)
    (step_sum (level l h.role) (ident_hit (form_of h) s h) (bind_hit (bind_of h) s h) (own s (inside (form_of h)) k) (own s as_clause k)
    (inn s (inside (form_of h)) k) (inn s as_clause k) (count s k)
    (own_inn s (inside (form_of h)) k) (own_inn s as_clause k))
    (own_inn s (after l h.role) r))

abbrev pub Use : Spot → Cmd → Type 0
Use s skip = ⊥
Use s (a ⨟ b) = Use s a ⊎ Use s b
Use s (use_of h) = T (same s h.spot)
Use s (set_of o h) = ⊥
Use s (stop w) = ⊥
Use s (branch a b) = Use s a ⊎ Use s b
Use s (loop c) = Use s c
Use s (scope c) = ⊥

pick_use : (s : Spot) (b : Bool) (X Y : Cmd) (n m : ℕ) → (Use s X → 1 ≤ n) → (Use s Y → 1 ≤ m) → Use s (picked b X Y) → 1 ≤ only b n + m
pick_use s false X Y n m f g p = let q : 1 ≤ m = g p in omega arith
pick_use s true X Y n m f g (inl p) = let q : 1 ≤ n = f p in omega arith
pick_use s true X Y n m f g (inr p) = let q : 1 ≤ m = g p in omega arith

no_use : (s : Spot) (b : Bool) (X Y : Cmd) → (Use s X → ⊥) → (Use s Y → ⊥) → Use s (picked b X Y) → ⊥
no_use s false X Y f g p = g p
no_use s true X Y f g (inl p) = f p
no_use s true X Y f g (inr p) = g p

abbrev pub AnySet : Spot → Cmd → Type 0
AnySet s skip = ⊥
AnySet s (a ⨟ b) = AnySet s a ⊎ AnySet s b
AnySet s (use_of h) = ⊥
AnySet s (set_of o h) = T (same s h.spot)
AnySet s (stop w) = ⊥
AnySet s (branch a b) = AnySet s a ⊎ AnySet s b
AnySet s (loop c) = AnySet s c
AnySet s (scope c) = AnySet s c

pick_any_set : (s : Spot) (b : Bool) (X Y : Cmd) (n m : ℕ) → (AnySet s X → 1 ≤ n) → (AnySet s Y → 1 ≤ m) → AnySet s (picked b X Y)
    → 1 ≤ only b n + m
pick_any_set s false X Y n m f g p = let q : 1 ≤ m = g p in omega arith
pick_any_set s true X Y n m f g (inl p) = let q : 1 ≤ n = f p in omega arith
pick_any_set s true X Y n m f g (inr p) = let q : 1 ≤ m = g p in omega arith

no_any_set : (s : Spot) (b : Bool) (X Y : Cmd) → (AnySet s X → ⊥) → (AnySet s Y → ⊥) → AnySet s (picked b X Y) → ⊥
no_any_set s false X Y f g p = g p
no_any_set s true X Y f g (inl p) = f p
no_any_set s true X Y f g (inr p) = g p

abbrev pub Inner : Spot → Cmd → Type 0
Inner s skip = ⊥
Inner s (a ⨟ b) = Inner s a ⊎ Inner s b
Inner s (use_of h) = ⊥
Inner s (set_of o h) = ⊥
Inner s (stop w) = ⊥
Inner s (branch a b) = Inner s a ⊎ Inner s b
Inner s (loop c) = Inner s c
Inner s (scope c) = AnySet s c

pick_inner : (s : Spot) (b : Bool) (X Y : Cmd) (n m : ℕ) → (Inner s X → 1 ≤ n) → (Inner s Y → 1 ≤ m) → Inner s (picked b X Y)
    → 1 ≤ only b n + m
pick_inner s false X Y n m f g p = let q : 1 ≤ m = g p in omega arith
pick_inner s true X Y n m f g (inl p) = let q : 1 ≤ n = f p in omega arith
pick_inner s true X Y n m f g (inr p) = let q : 1 ≤ m = g p in omega arith

no_inner : (s : Spot) (b : Bool) (X Y : Cmd) → (Inner s X → ⊥) → (Inner s Y → ⊥) → Inner s (picked b X Y) → ⊥
no_inner s false X Y f g p = g p
no_inner s true X Y f g (inl p) = f p
no_inner s true X Y f g (inr p) = g p

hit_one : (b : Bool) → T b → 1 ≤ hit b
hit_one true t = omega arith
hit_one false t = absurd t

pub only_le : (b : Bool) (n : ℕ) → only b n ≤ n
only_le true n = omega arith
only_le false n = omega arith

pub tally_le : (s : Spot) (ρ : ℕ) (f : Forest) → tally s ρ f ≤ count s f
tally_le s ρ leaf = omega arith
tally_le s ρ (node h k r) = let p = only_le (eqb ρ h.role) (me s h + count s k) in let q = tally_le s ρ r in omega arith

-- what binds sets, and uses nothing
bind_anyset : (s : Spot) (z : Bind) (h : Head) (down : ℕ → Cmd) (n : ℕ) → (AnySet s (down 0) → 1 ≤ n) → AnySet s (bind_part z h down)
    → 1 ≤ bind_hit z s h + n
bind_anyset s (one o) h down n f p = let q : 1 ≤ hit (same s h.spot) = hit_one (same s h.spot) p in omega arith
bind_anyset s several h down n f p = let q : 1 ≤ n = f p in omega arith
bind_anyset s nothing h down n f p = absurd p

le_wrap : (i b n : ℕ) → 1 ≤ b + n → 1 ≤ (i + b) + n
le_wrap i b n p = omega arith

binds_tally : (s : Spot) (ρ : ℕ) (f : Forest) → AnySet s (binds ρ f) → 1 ≤ tally s ρ f
binds_tally s ρ leaf p = absurd p
binds_tally s ρ (node h k r) p = pick_any_set s (eqb ρ h.role) (bind_part (bind_of h) h (λ v. binds v k)) (binds ρ r) (me s h
    + count s k) (tally s ρ r)
    (λ q. le_wrap (ident_hit (form_of h) s h) (bind_hit (bind_of h) s h) (count s k)
    (bind_anyset s (bind_of h) h (λ v. binds v k) (count s k) (λ z. let a = binds_tally s 0 k z in let b = tally_le s 0 k in
    omega arith) q))
    (binds_tally s ρ r) p

binds_count : (s : Spot) (ρ : ℕ) (f : Forest) → AnySet s (binds ρ f) → 1 ≤ count s f
binds_count s ρ f p = let a = binds_tally s ρ f p in let b = tally_le s ρ f in omega arith

bind_no_use : (s : Spot) (z : Bind) (h : Head) (down : ℕ → Cmd) → (Use s (down 0) → ⊥) → Use s (bind_part z h down) → ⊥
bind_no_use s (one o) h down f p = p
bind_no_use s several h down f p = f p
bind_no_use s nothing h down f p = p

pub binds_no_use : (s : Spot) (ρ : ℕ) (f : Forest) → Use s (binds ρ f) → ⊥
binds_no_use s ρ leaf p = p
binds_no_use s ρ (node h k r) p = no_use s (eqb ρ h.role) (bind_part (bind_of h) h (λ v. binds v k)) (binds ρ r)
    (bind_no_use s (bind_of h) h (λ v. binds v k) (binds_no_use s 0 k)) (binds_no_use s ρ r) p

bind_no_inner : (s : Spot) (z : Bind) (h : Head) (down : ℕ → Cmd) → (Inner s (down 0) → ⊥) → Inner s (bind_part z h down) → ⊥
bind_no_inner s (one o) h down f p = p
bind_no_inner s several h down f p = f p
bind_no_inner s nothing h down f p = p

pub binds_no_inner : (s : Spot) (ρ : ℕ) (f : Forest) → Inner s (binds ρ f) → ⊥
binds_no_inner s ρ leaf p = p
binds_no_inner s ρ (node h k r) p = no_inner s (eqb ρ h.role) (bind_part (bind_of h) h (λ v. binds v k)) (binds ρ r)
    (bind_no_inner s (bind_of h) h (λ v. binds v k) (binds_no_inner s 0 k)) (binds_no_inner s ρ r) p

use_no_set : (s : Spot) (z : Bind) (h : Head) (down : ℕ → Cmd) → (AnySet s (down 0) → ⊥) → AnySet s (use_part z h down) → ⊥
use_no_set s (one o) h down f p = p
use_no_set s several h down f p = f p
use_no_set s nothing h down f p = p

uses_no_set : (s : Spot) (ρ : ℕ) (f : Forest) → AnySet s (uses ρ f) → ⊥
uses_no_set s ρ leaf p = p
uses_no_set s ρ (node h k r) p = no_any_set s (eqb ρ h.role) (use_part (bind_of h) h (λ v. uses v k)) (uses ρ r)
    (use_no_set s (bind_of h) h (λ v. uses v k) (uses_no_set s 0 k)) (uses_no_set s ρ r) p

use_no_inner : (s : Spot) (z : Bind) (h : Head) (down : ℕ → Cmd) → (Inner s (down 0) → ⊥) → Inner s (use_part z h down) → ⊥
use_no_inner s (one o) h down f p = p
use_no_inner s several h down f p = f p
use_no_inner s nothing h down f p = p

uses_no_inner : (s : Spot) (ρ : ℕ) (f : Forest) → Inner s (uses ρ f) → ⊥
uses_no_inner s ρ leaf p = p
uses_no_inner s ρ (node h k r) p = no_inner s (eqb ρ h.role) (use_part (bind_of h) h (λ v. uses v k)) (uses ρ r)
    (use_no_inner s (bind_of h) h (λ v. uses v k) (uses_no_inner s 0 k)) (uses_no_inner s ρ r) p

-- a target's names as uses
use_own_part : (s : Spot) (z : Bind) (y : Form) (h : Head) (k : Forest) → Link z y → (Use s (uses 0 k) → 1 ≤ own s all_in k)
    → Use s (use_part z h (λ v. uses v k)) → 1 ≤ bind_hit z s h + own s (inside y) k
use_own_part s (one o) y h k l f p = let q : 1 ≤ hit (same s h.spot) = hit_one (same s h.spot) p in omega arith
use_own_part s several y h k l f p = subst (λ (x : Form). 1 ≤ 0 + own s (inside x) k) (sym l) (let q : 1 ≤ own s all_in k = f p in
    omega arith)
use_own_part s nothing y h k l f p = absurd p

pick_in : (s : Spot) (b : Bool) (X Y : Cmd) (i n m : ℕ) → (Use s X → 1 ≤ n) → (Use s Y → 1 ≤ m) → Use s (picked b X Y) → 1 ≤ (i + n) + m
pick_in s false X Y i n m f g p = let q : 1 ≤ m = g p in omega arith
pick_in s true X Y i n m f g (inl p) = let q : 1 ≤ n = f p in omega arith
pick_in s true X Y i n m f g (inr p) = let q : 1 ≤ m = g p in omega arith

uses_own : (s : Spot) (ρ : ℕ) (f : Forest) → Use s (uses ρ f) → 1 ≤ own s all_in f
uses_own s ρ leaf p = absurd p
uses_own s ρ (node h k r) p = pick_in s (eqb ρ h.role) (use_part (bind_of h) h (λ v. uses v k)) (uses ρ r) (ident_hit (form_of h) s h)
    (bind_hit (bind_of h) s h + own s (inside (form_of h)) k) (own s all_in r)
    (use_own_part s (bind_of h) (form_of h) h k (linked h.kind) (uses_own s 0 k)) (uses_own s ρ r) p

no_cond : (s : Spot) (b : Bool) → (AnySet s (cond b (stop fails) skip) → ⊥) × (Use s (cond b (stop fails) skip) → ⊥) ×
    (Inner s (cond b (stop fails) skip) → ⊥)
no_cond s true = ((λ p. p), (λ p. p), (λ p. p))
no_cond s false = ((λ p. p), (λ p. p), (λ p. p))

-- which visits go into the scope, and which into a nested one
data Fits : Want → Levels → Type 0 where
  fit_role : {ρ : ℕ} → Fits (of_role ρ) all_in
  fit_every : Fits every all_in
  fit_params : Fits (of_role 0) as_def
  fit_type : Fits (of_role 3) as_def
  fit_over : Fits first_over as_comp
  fit_first : Fits (of_role 4) as_clause

data Outs : Want → Levels → Type 0 where
  out_body : Outs (of_role 1) as_def
  out_key : Outs (of_role 8) as_comp
  out_result : Outs (of_role 4) as_comp
  out_target : Outs (of_role 5) as_clause

-- the parameters of a def or a lambda are no targets with several members
abbrev pub one_each : Bind → Bool
one_each (one o) = true
one_each several = false
one_each nothing = true

abbrev pub params : Forest → Bool
params leaf = true
params (node h k r) = (not (eqb 0 h.role) || one_each (bind_of h)) && params r

abbrev pub params_of : Form → Forest → Bool
params_of z k = case z ((Form.def, params k) ∷ (Form.lambda, params k) ∷ []) true

abbrev pub shaped : Forest → Bool
shaped leaf = true
shaped (node h k r) = params_of (form_of h) k && (shaped k && shaped r)

out_count : (s : Spot) (f : Forest) → count s f ≤ inn s all_out f
out_count s leaf = omega arith
out_count s (node h k r) = let p = out_count s r in omega arith

le_two : (x y z : ℕ) → 1 ≤ x → x ≤ y → 1 ≤ y
le_two x y z p q = omega arith

level_is : (ρ : ℕ) (l : Levels) (v : Level) → level l ρ ≡ v → (x : ℕ) → T (eqb ρ x) → level l x ≡ v
level_is ρ l v e x t = subst (λ (y : ℕ). level l y ≡ v) (eqb→eq ρ x t) e

-- a step in the scope
step_use : (s : Spot) (b : Bool) (X Y : Cmd) (v : Level) (i bb x c m : ℕ) → (T b → (v ≡ in_it) ⊎ (v ≡ split)) → (Use s X → 1 ≤ i + x)
    → (Use s Y → 1 ≤ m) → Use s (picked b X Y) → 1 ≤ own_step v i bb x c + m
step_use s b X Y v i bb x c m e f g p = go b e p
  where
    at_level : (v ≡ in_it) ⊎ (v ≡ split) → 1 ≤ i + x → 1 ≤ own_step v i bb x c + m
    at_level (inl q) z = subst (λ (y : Level). 1 ≤ own_step y i bb x c + m) (sym q) (omega arith)
    at_level (inr q) z = subst (λ (y : Level). 1 ≤ own_step y i bb x c + m) (sym q) (omega arith)

    go : (b : Bool) → (T b → (v ≡ in_it) ⊎ (v ≡ split)) → Use s (picked b X Y) → 1 ≤ own_step v i bb x c + m
    go false e p = let q : 1 ≤ m = g p in omega arith
    go true e (inl p) = at_level (e tt) (f p)
    go true e (inr p) = let q : 1 ≤ m = g p in omega arith

step_inner : (s : Spot) (b : Bool) (X Y : Cmd) (v : Level) (i bb x c n m : ℕ) → (T b → (v ≡ in_it) ⊎ (v ≡ split)) → (Inner s X → 1 ≤ x)
    → (Inner s Y → 1 ≤ m) → Inner s (picked b X Y) → 1 ≤ inn_step v i bb x c n + m
step_inner s b X Y v i bb x c n m e f g p = go b e p
  where
    at_level : (v ≡ in_it) ⊎ (v ≡ split) → 1 ≤ x → 1 ≤ inn_step v i bb x c n + m
    at_level (inl q) z = subst (λ (y : Level). 1 ≤ inn_step y i bb x c n + m) (sym q) (omega arith)
    at_level (inr q) z = subst (λ (y : Level). 1 ≤ inn_step y i bb x c n + m) (sym q) (omega arith)

    go : (b : Bool) → (T b → (v ≡ in_it) ⊎ (v ≡ split)) → Inner s (picked b X Y) → 1 ≤ inn_step v i bb x c n + m
    go false e p = let q : 1 ≤ m = g p in omega arith
    go true e (inl p) = at_level (e tt) (f p)
    go true e (inr p) = let q : 1 ≤ m = g p in omega arith

step_out : (s : Spot) (b : Bool) (X Y : Cmd) (v : Level) (i bb x c n m : ℕ) → (T b → v ≡ out_of_it) → (AnySet s X → 1 ≤ i + (bb + n))
    → (AnySet s Y → 1 ≤ m) → AnySet s (picked b X Y) → 1 ≤ inn_step v i bb x c n + m
step_out s b X Y v i bb x c n m e f g p = go b e p
  where
    at_level : v ≡ out_of_it → 1 ≤ i + (bb + n) → 1 ≤ inn_step v i bb x c n + m
    at_level q z = subst (λ (y : Level). 1 ≤ inn_step y i bb x c n + m) (sym q) (omega arith)

    go : (b : Bool) → (T b → v ≡ out_of_it) → AnySet s (picked b X Y) → 1 ≤ inn_step v i bb x c n + m
    go false e p = let q : 1 ≤ m = g p in omega arith
    go true e (inl p) = at_level (e tt) (f p)
    go true e (inr p) = let q : 1 ≤ m = g p in omega arith

-- parameters' names stand in the nested scope
step_params : (s : Spot) (b : Bool) (z : Bind) (h : Head) (down : ℕ → Cmd) (Y : Cmd) (v : Level) (i x c n m : ℕ) → (T b → v ≡ split)
    → T (not b || one_each z) → (AnySet s Y → 1 ≤ m)
    → AnySet s (picked b (bind_part z h down) Y) → 1 ≤ inn_step v i (bind_hit z s h) x c n + m
step_params s false z h down Y v i x c n m e o g p = let q : 1 ≤ m = g p in omega arith
step_params s true (one o) h down Y v i x c n m e t g (inl p) =
    subst (λ (y : Level). 1 ≤ inn_step y i (hit (same s h.spot)) x c n + m) (sym (e tt))
    (let q : 1 ≤ hit (same s h.spot) = hit_one (same s h.spot) p in omega arith)
step_params s true (one o) h down Y v i x c n m e t g (inr p) = let q : 1 ≤ m = g p in omega arith
step_params s true several h down Y v i x c n m e t g p = absurd t
step_params s true nothing h down Y v i x c n m e t g (inl p) = absurd p
step_params s true nothing h down Y v i x c n m e t g (inr p) = let q : 1 ≤ m = g p in omega arith

binds_params : (s : Spot) (f : Forest) → T (params f) → AnySet s (binds 0 f) → 1 ≤ inn s as_def f
binds_params s leaf o p = absurd p
binds_params s (node h k r) o p = step_params s (eqb 0 h.role) (bind_of h) h (λ v. binds v k) (binds 0 r) (level as_def h.role)
    (ident_hit (form_of h) s h) (inn s (inside (form_of h)) k) (inn s as_clause k) (count s k) (inn s as_def r)
    (level_is 0 as_def split refl h.role) (and_left (not (eqb 0 h.role) || one_each (bind_of h)) (params r) o)
    (binds_params s r (and_right (not (eqb 0 h.role) || one_each (bind_of h)) (params r) o)) p

binds_target : (s : Spot) (f : Forest) → AnySet s (binds 5 f) → 1 ≤ inn s as_clause f
binds_target s leaf p = absurd p
binds_target s (node h k r) p = step_out s (eqb 5 h.role) (bind_part (bind_of h) h (λ v. binds v k)) (binds 5 r)
    (level as_clause h.role) (ident_hit (form_of h) s h) (bind_hit (bind_of h) s h) (inn s (inside (form_of h)) k) (inn s as_clause k)
    (count s k) (inn s as_clause r)
    (level_is 5 as_clause out_of_it refl h.role)
    (λ q. let a = bind_anyset s (bind_of h) h (λ v. binds v k) (count s k) (binds_count s 0 k) q in omega arith) (binds_target s r) p

module _ (is_fail : ℕ → Bool) where
  pub part_set : (s : Spot) (z : Form) (h : Head) (k : Forest) → ((w : Want) → AnySet s (takes is_fail w k) → 1 ≤ count s k)
      → AnySet s (part is_fail z h k (λ v. takes is_fail v k)) → 1 ≤ count s k
  part_set s Form.breaking h k ih p = absurd p
  part_set s Form.returning h k ih (inl p) = ih (of_role 4) p
  part_set s Form.returning h k ih (inr p) = absurd p
  part_set s Form.expression h k ih (inl p) = ih (of_role 4) p
  part_set s Form.expression h k ih (inr p) = absurd ((no_cond s (fail_called is_fail k)).0 p)
  part_set s Form.assign h k ih (inl p) = ih (of_role 3) p
  part_set s Form.assign h k ih (inr (inl p)) = ih (of_role 4) p
  part_set s Form.assign h k ih (inr (inr (inl p))) = ih (of_role 5) p
  part_set s Form.assign h k ih (inr (inr (inr p))) = binds_count s 5 k p
  part_set s Form.modify h k ih (inl p) = ih (of_role 4) p
  part_set s Form.modify h k ih (inr (inl p)) = ih (of_role 5) p
  part_set s Form.modify h k ih (inr (inr (inl p))) = absurd (uses_no_set s 5 k p)
  part_set s Form.modify h k ih (inr (inr (inr (inl p)))) = ih (of_role 5) p
  part_set s Form.modify h k ih (inr (inr (inr (inr p)))) = binds_count s 5 k p
  part_set s Form.statements h k ih p = ih (of_role 0) p
  part_set s Form.if h k ih (inl p) = ih (of_role 4) p
  part_set s Form.if h k ih (inr (inl p)) = ih (of_role 1) p
  part_set s Form.if h k ih (inr (inr p)) = absurd p
  part_set s Form.if_else h k ih (inl p) = ih (of_role 4) p
  part_set s Form.if_else h k ih (inr (inl p)) = ih (of_role 1) p
  part_set s Form.if_else h k ih (inr (inr p)) = ih (of_role 2) p
  part_set s Form.for h k ih (inl p) = ih (of_role 4) p
  part_set s Form.for h k ih (inr (inl p)) = ih (of_role 5) p
  part_set s Form.for h k ih (inr (inr (inl p))) = binds_count s 5 k p
  part_set s Form.for h k ih (inr (inr (inr p))) = ih (of_role 1) p
  part_set s Form.def h k ih (inl p) = ih (of_role 0) p
  part_set s Form.def h k ih (inr (inl p)) = ih (of_role 3) p
  part_set s Form.def h k ih (inr (inr (inl p))) = binds_count s 6 k p
  part_set s Form.def h k ih (inr (inr (inr (inl p)))) = binds_count s 0 k p
  part_set s Form.def h k ih (inr (inr (inr (inr p)))) = ih (of_role 1) p
  part_set s Form.load h k ih p = binds_count s 0 k p
  part_set s Form.identifier h k ih p = absurd p
  part_set s Form.lambda h k ih (inl p) = ih (of_role 0) p
  part_set s Form.lambda h k ih (inr (inl p)) = binds_count s 0 k p
  part_set s Form.lambda h k ih (inr (inr p)) = ih (of_role 1) p
  part_set s Form.comprehension h k ih (inl p) = ih first_over p
  part_set s Form.comprehension h k ih (inr (inl p)) = ih first_bound p
  part_set s Form.comprehension h k ih (inr (inr (inl p))) = ih (of_role 8) p
  part_set s Form.comprehension h k ih (inr (inr (inr p))) = ih (of_role 4) p
  part_set s Form.plain h k ih p = ih every p

  pub sets_count : (s : Spot) (w : Want) (f : Forest) → AnySet s (takes is_fail w f) → 1 ≤ count s f
  sets_count s w leaf p = absurd p
  sets_count s (of_role ρ) (node h k r) p = let a =
      pick_any_set s (eqb ρ h.role) (part is_fail (form_of h) h k (λ v. takes is_fail v k)) (takes is_fail (of_role ρ) r) (count s k)
      (count s r) (part_set s (form_of h) h k (λ v. sets_count s v k)) (sets_count s (of_role ρ) r) p in
      let b = only_le (eqb ρ h.role) (count s k) in omega arith
  sets_count s every (node h k r) p = let a = pick_any_set s true (part is_fail (form_of h) h k (λ v. takes is_fail v k))
      (takes is_fail every r) (count s k) (count s r) (part_set s (form_of h) h k (λ v. sets_count s v k)) (sets_count s every r) p in
      omega arith
  sets_count s first_over (node h k r) p = go (eqb 0 h.role) p (sets_count s (of_role 4) k) (sets_count s first_over r)
    where
      go : (b : Bool) → AnySet s (elim b as (λ x. Cmd) [ false ↦ takes is_fail first_over r | true ↦ takes is_fail (of_role 4) k ])
          → (AnySet s (takes is_fail (of_role 4) k) → 1 ≤ count s k) → (AnySet s (takes is_fail first_over r) → 1 ≤ count s r)
          → 1 ≤ me s h + (count s k + count s r)
      go false p f g = let q : 1 ≤ count s r = g p in omega arith
      go true p f g = let q : 1 ≤ count s k = f p in omega arith
  sets_count s first_bound (node h k r) p = go (eqb 0 h.role) p (sets_count s (of_role 5) k) (sets_count s clauses r)
      (sets_count s first_bound r)
    where
      go : (b : Bool) → AnySet s (elim b as (λ x. Cmd) [
        | false ↦ takes is_fail first_bound r
        | true ↦ takes is_fail
            (of_role 5) k ⨟ binds 5 k ⨟ takes is_fail clauses r
      ]) → (AnySet s (takes is_fail (of_role 5) k) → 1 ≤ count s k)
          → (AnySet s (takes is_fail clauses r) → 1 ≤ count s r) → (AnySet s (takes is_fail first_bound r) → 1 ≤ count s r)
          → 1 ≤ me s h + (count s k + count s r)
      go false p f g e = let q : 1 ≤ count s r = e p in omega arith
      go true (inl p) f g e = let q : 1 ≤ count s k = f p in omega arith
      go true (inr (inl p)) f g e = let q : 1 ≤ count s k = binds_count s 5 k p in omega arith
      go true (inr (inr p)) f g e = let q : 1 ≤ count s r = g p in omega arith
  sets_count s clauses (node h k r) p = let a = pick_any_set s (eqb 0 h.role)
      (takes is_fail (of_role 4) k ⨟ takes is_fail (of_role 5) k ⨟ binds 5 k) (takes is_fail clauses r) (count s k) (count s r)
      (go (sets_count s (of_role 4) k) (sets_count s (of_role 5) k)) (sets_count s clauses r) p in
      let b = only_le (eqb 0 h.role) (count s k) in omega arith
    where
      go : (AnySet s (takes is_fail (of_role 4) k) → 1 ≤ count s k) → (AnySet s (takes is_fail (of_role 5) k) → 1 ≤ count s k)
          → AnySet s (takes is_fail (of_role 4) k ⨟ takes is_fail (of_role 5) k ⨟ binds 5 k) → 1 ≤ count s k
      go f g (inl p) = f p
      go f g (inr (inl p)) = g p
      go f g (inr (inr p)) = binds_count s 5 k p

  pub sets_tally : (s : Spot) (ρ : ℕ) (f : Forest) → AnySet s (takes is_fail (of_role ρ) f) → 1 ≤ tally s ρ f
  sets_tally s ρ leaf p = absurd p
  sets_tally s ρ (node h k r) p = pick_any_set s (eqb ρ h.role) (part is_fail (form_of h) h k (λ v. takes is_fail v k))
      (takes is_fail (of_role ρ) r) (me s h + count s k) (tally s ρ r)
      (λ q. let a = part_set s (form_of h) h k (λ v. sets_count s v k) q in omega arith) (sets_tally s ρ r) p

  -- own uses
  part_use : (s : Spot) (z : Form) (h : Head) (k : Forest)
      → ((w : Want) (l : Levels) → Fits w l → Use s (takes is_fail w k) → 1 ≤ own s l k)
      → Use s (part is_fail z h k (λ v. takes is_fail v k)) → 1 ≤ ident_hit z s h + own s (inside z) k
  part_use s Form.breaking h k ih p = absurd p
  part_use s Form.returning h k ih (inl p) = let q = ih (of_role 4) all_in fit_role p in omega arith
  part_use s Form.returning h k ih (inr p) = absurd p
  part_use s Form.expression h k ih (inl p) = let q = ih (of_role 4) all_in fit_role p in omega arith
  part_use s Form.expression h k ih (inr p) = absurd ((no_cond s (fail_called is_fail k)).1 p)
  part_use s Form.assign h k ih (inl p) = let q = ih (of_role 3) all_in fit_role p in omega arith
  part_use s Form.assign h k ih (inr (inl p)) = let q = ih (of_role 4) all_in fit_role p in omega arith
  part_use s Form.assign h k ih (inr (inr (inl p))) = let q = ih (of_role 5) all_in fit_role p in omega arith
  part_use s Form.assign h k ih (inr (inr (inr p))) = absurd (binds_no_use s 5 k p)
  part_use s Form.modify h k ih (inl p) = let q = ih (of_role 4) all_in fit_role p in omega arith
  part_use s Form.modify h k ih (inr (inl p)) = let q = ih (of_role 5) all_in fit_role p in omega arith
  part_use s Form.modify h k ih (inr (inr (inl p))) = let q = uses_own s 5 k p in omega arith
  part_use s Form.modify h k ih (inr (inr (inr (inl p)))) = let q = ih (of_role 5) all_in fit_role p in omega arith
  part_use s Form.modify h k ih (inr (inr (inr (inr p)))) = absurd (binds_no_use s 5 k p)
  part_use s Form.statements h k ih p = let q = ih (of_role 0) all_in fit_role p in omega arith
  part_use s Form.if h k ih (inl p) = let q = ih (of_role 4) all_in fit_role p in omega arith
  part_use s Form.if h k ih (inr (inl p)) = let q = ih (of_role 1) all_in fit_role p in omega arith
  part_use s Form.if h k ih (inr (inr p)) = absurd p
  part_use s Form.if_else h k ih (inl p) = let q = ih (of_role 4) all_in fit_role p in omega arith
  part_use s Form.if_else h k ih (inr (inl p)) = let q = ih (of_role 1) all_in fit_role p in omega arith
  part_use s Form.if_else h k ih (inr (inr p)) = let q = ih (of_role 2) all_in fit_role p in omega arith
  part_use s Form.for h k ih (inl p) = let q = ih (of_role 4) all_in fit_role p in omega arith
  part_use s Form.for h k ih (inr (inl p)) = let q = ih (of_role 5) all_in fit_role p in omega arith
  part_use s Form.for h k ih (inr (inr (inl p))) = absurd (binds_no_use s 5 k p)
  part_use s Form.for h k ih (inr (inr (inr p))) = let q = ih (of_role 1) all_in fit_role p in omega arith
  part_use s Form.def h k ih (inl p) = let q = ih (of_role 0) as_def fit_params p in omega arith
  part_use s Form.def h k ih (inr (inl p)) = let q = ih (of_role 3) as_def fit_type p in omega arith
  part_use s Form.def h k ih (inr (inr (inl p))) = absurd (binds_no_use s 6 k p)
  part_use s Form.def h k ih (inr (inr (inr p))) = absurd p
  part_use s Form.load h k ih p = absurd (binds_no_use s 0 k p)
  part_use s Form.identifier h k ih p = let q = hit_one (same s h.spot) p in omega arith
  part_use s Form.lambda h k ih (inl p) = let q = ih (of_role 0) as_def fit_params p in omega arith
  part_use s Form.lambda h k ih (inr p) = absurd p
  part_use s Form.comprehension h k ih (inl p) = let q = ih first_over as_comp fit_over p in omega arith
  part_use s Form.comprehension h k ih (inr p) = absurd p
  part_use s Form.plain h k ih p = let q = ih every all_in fit_every p in omega arith

  levels_of : {ρ : ℕ} {l : Levels} → Fits (of_role ρ) l → (x : ℕ) → T (eqb ρ x) → (level l x ≡ in_it) ⊎ (level l x ≡ split)
  levels_of fit_role x t = inl refl
  levels_of fit_params x t = inr (level_is 0 as_def split refl x t)
  levels_of fit_type x t = inl (level_is 3 as_def in_it refl x t)
  levels_of fit_first x t = inl (level_is 4 as_clause in_it refl x t)

  over_use : (s : Spot) (b : Bool) (X Y : Cmd) (i bb x c : ℕ) (r : Forest) → (Use s X → 1 ≤ c) → (Use s Y → 1 ≤ own s as_comp r)
      → Use s (elim b as (λ z. Cmd) [ false ↦ Y | true ↦ X ])
      → 1 ≤ own_step (cond b clause out_of_it) i bb x c + own s (cond b all_out as_comp) r
  over_use s false X Y i bb x c r f g p = let q : 1 ≤ own s as_comp r = g p in omega arith
  over_use s true X Y i bb x c r f g p = let q : 1 ≤ c = f p in omega arith

  use_own : (s : Spot) (f : Forest) (w : Want) (l : Levels) → Fits w l → Use s (takes is_fail w f) → 1 ≤ own s l f
  use_own s leaf w l t p = absurd p
  use_own s (node h k r) w l (fit_role {ρ = ρ}) p =
      step_use s (eqb ρ h.role) (part is_fail (form_of h) h k (λ v. takes is_fail v k)) (takes is_fail (of_role ρ) r)
      (level all_in h.role) (ident_hit (form_of h) s h) (bind_hit (bind_of h) s h) (own s (inside (form_of h)) k) (own s as_clause k)
      (own s all_in r)
      (levels_of fit_role h.role) (part_use s (form_of h) h k (use_own s k)) (use_own s r (of_role ρ) all_in fit_role) p
  use_own s (node h k r) w l fit_params p = step_use s (eqb 0 h.role) (part is_fail (form_of h) h k (λ v. takes is_fail v k))
      (takes is_fail (of_role 0) r) (level as_def h.role) (ident_hit (form_of h) s h) (bind_hit (bind_of h) s h)
      (own s (inside (form_of h)) k) (own s as_clause k) (own s as_def r)
      (levels_of fit_params h.role) (part_use s (form_of h) h k (use_own s k)) (use_own s r (of_role 0) as_def fit_params) p
  use_own s (node h k r) w l fit_type p = step_use s (eqb 3 h.role) (part is_fail (form_of h) h k (λ v. takes is_fail v k))
      (takes is_fail (of_role 3) r) (level as_def h.role) (ident_hit (form_of h) s h) (bind_hit (bind_of h) s h)
      (own s (inside (form_of h)) k) (own s as_clause k) (own s as_def r)
      (levels_of fit_type h.role) (part_use s (form_of h) h k (use_own s k)) (use_own s r (of_role 3) as_def fit_type) p
  use_own s (node h k r) w l fit_first p = step_use s (eqb 4 h.role) (part is_fail (form_of h) h k (λ v. takes is_fail v k))
      (takes is_fail (of_role 4) r) (level as_clause h.role) (ident_hit (form_of h) s h) (bind_hit (bind_of h) s h)
      (own s (inside (form_of h)) k) (own s as_clause k) (own s as_clause r)
      (levels_of fit_first h.role) (part_use s (form_of h) h k (use_own s k)) (use_own s r (of_role 4) as_clause fit_first) p
  use_own s (node h k r) w l fit_every p = step_use s true (part is_fail (form_of h) h k (λ v. takes is_fail v k))
      (takes is_fail every r) in_it (ident_hit (form_of h) s h) (bind_hit (bind_of h) s h) (own s (inside (form_of h)) k)
      (own s as_clause k) (own s all_in r)
      (λ t. inl refl) (part_use s (form_of h) h k (use_own s k)) (use_own s r every all_in fit_every) p
  use_own s (node h k r) w l fit_over p = over_use s (eqb 0 h.role) (takes is_fail (of_role 4) k) (takes is_fail first_over r)
      (ident_hit (form_of h) s h) (bind_hit (bind_of h) s h) (own s (inside (form_of h)) k) (own s as_clause k) r
      (use_own s k (of_role 4) as_clause fit_first) (use_own s r first_over as_comp fit_over) p

  comp_rest : (s : Spot) (w : Want) (b : Bool) (r : Forest) → (AnySet s (takes is_fail w r) → 1 ≤ inn s as_comp r)
      → AnySet s (takes is_fail w r) → 1 ≤ inn s (cond b all_out as_comp) r
  comp_rest s w true r f p = let a = sets_count s w r p in let b = out_count s r in omega arith
  comp_rest s w false r f p = f p

  -- what is set in a nested scope: a def's body, a comprehension's inside
  outs : (s : Spot) (f : Forest) (w : Want) (l : Levels) → Outs w l → AnySet s (takes is_fail w f) → 1 ≤ inn s l f
  outs s leaf w l t p = absurd p
  outs s (node h k r) w l out_body p = step_out s (eqb 1 h.role) (part is_fail (form_of h) h k (λ v. takes is_fail v k))
      (takes is_fail (of_role 1) r) (level as_def h.role) (ident_hit (form_of h) s h) (bind_hit (bind_of h) s h)
      (inn s (inside (form_of h)) k) (inn s as_clause k) (count s k) (inn s (after as_def h.role) r)
      (level_is 1 as_def out_of_it refl h.role) (λ q. let a = part_set s (form_of h) h k (λ v. sets_count s v k) q in
      omega arith) (outs s r (of_role 1) as_def out_body) p
  outs s (node h k r) w l out_key p = step_out s (eqb 8 h.role) (part is_fail (form_of h) h k (λ v. takes is_fail v k))
      (takes is_fail (of_role 8) r) (level as_comp h.role) (ident_hit (form_of h) s h) (bind_hit (bind_of h) s h)
      (inn s (inside (form_of h)) k) (inn s as_clause k) (count s k) (inn s (after as_comp h.role) r)
      (level_is 8 as_comp out_of_it refl h.role) (λ q. let a = part_set s (form_of h) h k (λ v. sets_count s v k) q in
      omega arith) (comp_rest s (of_role 8) (eqb 0 h.role) r (outs s r (of_role 8) as_comp out_key)) p
  outs s (node h k r) w l out_result p = step_out s (eqb 4 h.role) (part is_fail (form_of h) h k (λ v. takes is_fail v k))
      (takes is_fail (of_role 4) r) (level as_comp h.role) (ident_hit (form_of h) s h) (bind_hit (bind_of h) s h)
      (inn s (inside (form_of h)) k) (inn s as_clause k) (count s k) (inn s (after as_comp h.role) r)
      (level_is 4 as_comp out_of_it refl h.role) (λ q. let a = part_set s (form_of h) h k (λ v. sets_count s v k) q in
      omega arith) (comp_rest s (of_role 4) (eqb 0 h.role) r (outs s r (of_role 4) as_comp out_result)) p
  outs s (node h k r) w l out_target p = step_out s (eqb 5 h.role) (part is_fail (form_of h) h k (λ v. takes is_fail v k))
      (takes is_fail (of_role 5) r) (level as_clause h.role) (ident_hit (form_of h) s h) (bind_hit (bind_of h) s h)
      (inn s (inside (form_of h)) k) (inn s as_clause k) (count s k) (inn s (after as_clause h.role) r)
      (level_is 5 as_clause out_of_it refl h.role) (λ q. let a = part_set s (form_of h) h k (λ v. sets_count s v k) q in
      omega arith) (outs s r (of_role 5) as_clause out_target) p

  bound_step : (s : Spot) (b : Bool) (X Z W Y : Cmd) (i bb x c n : ℕ) (r : Forest) → (AnySet s X → 1 ≤ c) → (AnySet s Z → 1 ≤ c)
      → (AnySet s W → 1 ≤ inn s all_out r) → (AnySet s Y → 1 ≤ inn s as_comp r)
      → AnySet s (elim b as (λ z. Cmd) [ false ↦ Y | true ↦ X ⨟ Z ⨟ W ])
      → 1 ≤ inn_step (cond b clause out_of_it) i bb x c n + inn s (cond b all_out as_comp) r
  bound_step s false X Z W Y i bb x c n r f g e d p = let q : 1 ≤ inn s as_comp r = d p in omega arith
  bound_step s true X Z W Y i bb x c n r f g e d (inl p) = let q : 1 ≤ c = f p in omega arith
  bound_step s true X Z W Y i bb x c n r f g e d (inr (inl p)) = let q : 1 ≤ c = g p in omega arith
  bound_step s true X Z W Y i bb x c n r f g e d (inr (inr p)) = let q : 1 ≤ inn s all_out r = e p in omega arith

  bound_inn : (s : Spot) (f : Forest) → AnySet s (takes is_fail first_bound f) → 1 ≤ inn s as_comp f
  bound_inn s leaf p = absurd p
  bound_inn s (node h k r) p = bound_step s (eqb 0 h.role) (takes is_fail (of_role 5) k) (binds 5 k) (takes is_fail clauses r)
      (takes is_fail first_bound r) (ident_hit (form_of h) s h) (bind_hit (bind_of h) s h) (inn s (inside (form_of h)) k)
      (inn s as_clause k) (count s k) r
      (outs s k (of_role 5) as_clause out_target) (binds_target s k) (λ q. let a = sets_count s clauses r q in let b = out_count s r in
      omega arith) (bound_inn s r) p

  part_inner : (s : Spot) (z : Form) (h : Head) (k : Forest) → T (params_of z k)
      → ((w : Want) (l : Levels) → Fits w l → Inner s (takes is_fail w k) → 1 ≤ inn s l k)
      → Inner s (part is_fail z h k (λ v. takes is_fail v k)) → 1 ≤ inn s (inside z) k
  part_inner s Form.breaking h k o ih p = absurd p
  part_inner s Form.returning h k o ih (inl p) = ih (of_role 4) all_in fit_role p
  part_inner s Form.returning h k o ih (inr p) = absurd p
  part_inner s Form.expression h k o ih (inl p) = ih (of_role 4) all_in fit_role p
  part_inner s Form.expression h k o ih (inr p) = absurd ((no_cond s (fail_called is_fail k)).2 p)
  part_inner s Form.assign h k o ih (inl p) = ih (of_role 3) all_in fit_role p
  part_inner s Form.assign h k o ih (inr (inl p)) = ih (of_role 4) all_in fit_role p
  part_inner s Form.assign h k o ih (inr (inr (inl p))) = ih (of_role 5) all_in fit_role p
  part_inner s Form.assign h k o ih (inr (inr (inr p))) = absurd (binds_no_inner s 5 k p)
  part_inner s Form.modify h k o ih (inl p) = ih (of_role 4) all_in fit_role p
  part_inner s Form.modify h k o ih (inr (inl p)) = ih (of_role 5) all_in fit_role p
  part_inner s Form.modify h k o ih (inr (inr (inl p))) = absurd (uses_no_inner s 5 k p)
  part_inner s Form.modify h k o ih (inr (inr (inr (inl p)))) = ih (of_role 5) all_in fit_role p
  part_inner s Form.modify h k o ih (inr (inr (inr (inr p)))) = absurd (binds_no_inner s 5 k p)
  part_inner s Form.statements h k o ih p = ih (of_role 0) all_in fit_role p
  part_inner s Form.if h k o ih (inl p) = ih (of_role 4) all_in fit_role p
  part_inner s Form.if h k o ih (inr (inl p)) = ih (of_role 1) all_in fit_role p
  part_inner s Form.if h k o ih (inr (inr p)) = absurd p
  part_inner s Form.if_else h k o ih (inl p) = ih (of_role 4) all_in fit_role p
  part_inner s Form.if_else h k o ih (inr (inl p)) = ih (of_role 1) all_in fit_role p
  part_inner s Form.if_else h k o ih (inr (inr p)) = ih (of_role 2) all_in fit_role p
  part_inner s Form.for h k o ih (inl p) = ih (of_role 4) all_in fit_role p
  part_inner s Form.for h k o ih (inr (inl p)) = ih (of_role 5) all_in fit_role p
  part_inner s Form.for h k o ih (inr (inr (inl p))) = absurd (binds_no_inner s 5 k p)
  part_inner s Form.for h k o ih (inr (inr (inr p))) = ih (of_role 1) all_in fit_role p
  part_inner s Form.def h k o ih (inl p) = ih (of_role 0) as_def fit_params p
  part_inner s Form.def h k o ih (inr (inl p)) = ih (of_role 3) as_def fit_type p
  part_inner s Form.def h k o ih (inr (inr (inl p))) = absurd (binds_no_inner s 6 k p)
  part_inner s Form.def h k o ih (inr (inr (inr (inl p)))) = binds_params s k o p
  part_inner s Form.def h k o ih (inr (inr (inr (inr p)))) = outs s k (of_role 1) as_def out_body p
  part_inner s Form.load h k o ih p = absurd (binds_no_inner s 0 k p)
  part_inner s Form.identifier h k o ih p = absurd p
  part_inner s Form.lambda h k o ih (inl p) = ih (of_role 0) as_def fit_params p
  part_inner s Form.lambda h k o ih (inr (inl p)) = binds_params s k o p
  part_inner s Form.lambda h k o ih (inr (inr p)) = outs s k (of_role 1) as_def out_body p
  part_inner s Form.comprehension h k o ih (inl p) = ih first_over as_comp fit_over p
  part_inner s Form.comprehension h k o ih (inr (inl p)) = bound_inn s k p
  part_inner s Form.comprehension h k o ih (inr (inr (inl p))) = outs s k (of_role 8) as_comp out_key p
  part_inner s Form.comprehension h k o ih (inr (inr (inr p))) = outs s k (of_role 4) as_comp out_result p
  part_inner s Form.plain h k o ih p = ih every all_in fit_every p

  over_inner : (s : Spot) (b : Bool) (X Y : Cmd) (i bb x c n : ℕ) (r : Forest) → (Inner s X → 1 ≤ c) → (Inner s Y → 1 ≤ inn s as_comp r)
      → Inner s (elim b as (λ z. Cmd) [ false ↦ Y | true ↦ X ])
      → 1 ≤ inn_step (cond b clause out_of_it) i bb x c n + inn s (cond b all_out as_comp) r
  over_inner s false X Y i bb x c n r f g p = let q : 1 ≤ inn s as_comp r = g p in omega arith
  over_inner s true X Y i bb x c n r f g p = let q : 1 ≤ c = f p in omega arith

  inner_inn : (s : Spot) (f : Forest) → T (shaped f) → (w : Want) (l : Levels) → Fits w l → Inner s (takes is_fail w f) → 1 ≤ inn s l f
  inner_inn s leaf o w l t p = absurd p
  inner_inn s (node h k r) o w l (fit_role {ρ = ρ}) p =
      step_inner s (eqb ρ h.role) (part is_fail (form_of h) h k (λ v. takes is_fail v k)) (takes is_fail (of_role ρ) r)
      (level all_in h.role) (ident_hit (form_of h) s h) (bind_hit (bind_of h) s h) (inn s (inside (form_of h)) k) (inn s as_clause k)
      (count s k) (inn s all_in r)
      (levels_of fit_role h.role) (part_inner s (form_of h) h k (and_left (params_of (form_of h) k) (shaped k && shaped r) o)
      (inner_inn s k (and_left (shaped k) (shaped r) (and_right (params_of (form_of h) k) (shaped k && shaped r) o))))
      (inner_inn s r (and_right (shaped k) (shaped r) (and_right (params_of (form_of h) k) (shaped k && shaped r) o))
      (of_role ρ) all_in fit_role) p
  inner_inn s (node h k r) o w l fit_params p = step_inner s (eqb 0 h.role) (part is_fail (form_of h) h k (λ v. takes is_fail v k))
      (takes is_fail (of_role 0) r) (level as_def h.role) (ident_hit (form_of h) s h) (bind_hit (bind_of h) s h)
      (inn s (inside (form_of h)) k) (inn s as_clause k) (count s k) (inn s as_def r)
      (levels_of fit_params h.role) (part_inner s (form_of h) h k (and_left (params_of (form_of h) k) (shaped k && shaped r) o)
      (inner_inn s k (and_left (shaped k) (shaped r) (and_right (params_of (form_of h) k) (shaped k && shaped r) o))))
      (inner_inn s r (and_right (shaped k) (shaped r) (and_right (params_of (form_of h) k) (shaped k && shaped r) o))
      (of_role 0) as_def fit_params) p
  inner_inn s (node h k r) o w l fit_type p = step_inner s (eqb 3 h.role) (part is_fail (form_of h) h k (λ v. takes is_fail v k))
      (takes is_fail (of_role 3) r) (level as_def h.role) (ident_hit (form_of h) s h) (bind_hit (bind_of h) s h)
      (inn s (inside (form_of h)) k) (inn s as_clause k) (count s k) (inn s as_def r)
      (levels_of fit_type h.role) (part_inner s (form_of h) h k (and_left (params_of (form_of h) k) (shaped k && shaped r) o)
      (inner_inn s k (and_left (shaped k) (shaped r) (and_right (params_of (form_of h) k) (shaped k && shaped r) o))))
      (inner_inn s r (and_right (shaped k) (shaped r) (and_right (params_of (form_of h) k) (shaped k && shaped r) o))
      (of_role 3) as_def fit_type) p
  inner_inn s (node h k r) o w l fit_first p = step_inner s (eqb 4 h.role) (part is_fail (form_of h) h k (λ v. takes is_fail v k))
      (takes is_fail (of_role 4) r) (level as_clause h.role) (ident_hit (form_of h) s h) (bind_hit (bind_of h) s h)
      (inn s (inside (form_of h)) k) (inn s as_clause k) (count s k) (inn s as_clause r)
      (levels_of fit_first h.role) (part_inner s (form_of h) h k (and_left (params_of (form_of h) k) (shaped k && shaped r) o)
      (inner_inn s k (and_left (shaped k) (shaped r) (and_right (params_of (form_of h) k) (shaped k && shaped r) o))))
      (inner_inn s r (and_right (shaped k) (shaped r) (and_right (params_of (form_of h) k) (shaped k && shaped r) o))
      (of_role 4) as_clause fit_first) p
  inner_inn s (node h k r) o w l fit_every p = step_inner s true (part is_fail (form_of h) h k (λ v. takes is_fail v k))
      (takes is_fail every r) in_it (ident_hit (form_of h) s h) (bind_hit (bind_of h) s h) (inn s (inside (form_of h)) k)
      (inn s as_clause k) (count s k) (inn s all_in r)
      (λ t. inl refl) (part_inner s (form_of h) h k (and_left (params_of (form_of h) k) (shaped k && shaped r) o)
      (inner_inn s k (and_left (shaped k) (shaped r) (and_right (params_of (form_of h) k) (shaped k && shaped r) o))))
      (inner_inn s r (and_right (shaped k) (shaped r)
      (and_right (params_of (form_of h) k) (shaped k && shaped r) o)) every all_in fit_every) p
  inner_inn s (node h k r) o w l fit_over p = over_inner s (eqb 0 h.role) (takes is_fail (of_role 4) k) (takes is_fail first_over r)
      (ident_hit (form_of h) s h) (bind_hit (bind_of h) s h) (inn s (inside (form_of h)) k) (inn s as_clause k) (count s k) r
      (inner_inn s k (and_left (shaped k) (shaped r) (and_right (params_of (form_of h) k) (shaped k && shaped r) o))
      (of_role 4) as_clause fit_first) (inner_inn s r (and_right (shaped k) (shaped r)
      (and_right (params_of (form_of h) k) (shaped k && shaped r) o)) first_over as_comp fit_over) p

  -- a use of the scope and a setting in a nested one are two places
  pub apart : (s : Spot) (ρ : ℕ) (f : Forest) → T (shaped f) → count s f ≤ 1 → Use s (takes is_fail (of_role ρ) f)
      → Inner s (takes is_fail (of_role ρ) f) → ⊥
  apart s ρ f o u p q = let a = use_own s f (of_role ρ) all_in fit_role p in let b = inner_inn s f o (of_role ρ) all_in fit_role q in
      let c = own_inn s all_in f in omega arith

  pub use_tally : (s : Spot) (ρ : ℕ) (f : Forest) → Use s (takes is_fail (of_role ρ) f) → 1 ≤ tally s ρ f
  use_tally s ρ leaf p = absurd p
  use_tally s ρ (node h k r) p = pick_use s (eqb ρ h.role) (part is_fail (form_of h) h k (λ v. takes is_fail v k))
      (takes is_fail (of_role ρ) r) (me s h + count s k) (tally s ρ r)
      (λ q. let a = part_use s (form_of h) h k (use_own s k) q in let b = own_inn s (inside (form_of h)) k in
      omega arith) (use_tally s ρ r) p

pub shaped_kids : (h : Head) (k r : Forest) → T (shaped (node h k r)) → T (shaped k)
shaped_kids h k r o = and_left (shaped k) (shaped r) (and_right (params_of (form_of h) k) (shaped k && shaped r) o)

pub shaped_rest : (h : Head) (k r : Forest) → T (shaped (node h k r)) → T (shaped r)
shaped_rest h k r o = and_right (shaped k) (shaped r) (and_right (params_of (form_of h) k) (shaped k && shaped r) o)
