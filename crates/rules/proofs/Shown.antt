-- Demand 3's runs on small trees, each way of going on once: what they allow, what they don't, and what each premise keeps out;
-- at last the demand of a file's bytes.
use Rattle.std.specs.Prelude.{Ok}
use Prim.Native.Nat.{ℕ, ◌+◌, ◌*◌}
use mathlib.Core.Path.{◌≡◌, refl, sym, ap, subst}
use mathlib.Core.Bool.{Bool, true, false, not}
use mathlib.Core.List.Memᴰ
use mathlib.Core.List.{List, [], ◌∷◌, map, Memᴰ}
use mathlib.Core.Logic.{inl, inr}
use mathlib.Core.Option.{none}
use native.Mathlib.Omega.{arith}
use lib.Dec.{eqb, T}
use Rattle.tree.specs.Search.{first as first_of_places}
use Rattle.tree.specs.Bytes.{u16_at, u32_at, version_of, node_count, value_count, global_count, kind_at, role_at, size_at, begin_at, end_at, value_at, last_at}
use Rattle.tree.specs.Forest.{Head, Forest, Forest.none as leaf, node, node_spot, node_head, forest_in, forest_of, tree_of}
use Rattle.tree.specs.Values.{offset, formed, precedes}
use Rattle.tree.specs.Table.{table_of, spells, wrong_value, wrong_global}
use Rattle.tree.specs.Nodes.{parent_in, parent_of, limit_of, known, wrong_node, depth_in, depth_of, too_deep}
use Rattle.tree.specs.Children.{class_of, slot_of, all_stand, many, all_filled, in_pairs, for_first, in_order, kids_fit, root_ok, wrong_children}
use Rattle.tree.specs.Judge.{checks, facts_of, judged}
use Rattle.tree.specs.code.Shape.{valid, root_fits, fitting}
use Rattle.rules.specs.Order.{Stop, bare, fails, Cmd, ◌⨟◌, stop, loop, of_role, binds, takes, body, def_body, fail_name}
use Rattle.rules.specs.Names.{names, met, told, met_in, names_list}
use Rattle.rules.specs.Flow.{flow}
use Rattle.rules.specs.Record.{Rec, Span, no_span, named_at, also_at, plainly}
use Rattle.rules.specs.Runs.{at, below, beside, of_module, of_def, own, Held, nobody, hold, End, through, by, Run, skips, next, cut, uses, sets, breaking, returns, left, right, done, continues, out, apart, round, away, Reach, here, first, second, now, later, continued}
use Rattle.rules.specs.Premises.{Premises, names_apart, jumps_in_loops}
use Rattle.rules.specs.Letter.{Told, Demand3}
use Rattle.rules.specs.Known.{looped as looped_file}
use Rattle.rules.proofs.Demand3.{demand3, demand3_more}
use Rattle.rules.proofs.Whole.{the_demand}

-- nothing after a break, a continue, a return or a call of fail is reached, and a call of fail never finishes
pub nothing_after : {w : Stop} {b : Cmd} {h : Head} {σ : Held} → Reach h (stop w ⨟ b) σ → ⊥
nothing_after (first r) = no_use r
  where
    no_use : {w : Stop} {h : Head} {σ : Held} → Reach h (stop w) σ → ⊥
    no_use = elim [ ]
nothing_after (second r q) = no_run r
  where
    no_run : {w : Stop} {σ τ : Held} → Run (stop w) σ through τ → ⊥
    no_run = elim [ ]

pub fail_never_finishes : {e : End} {σ τ : Held} → Run (stop fails) σ e τ → ⊥
fail_never_finishes (returns t) = t

-- a node of a kind, role, span and value, its children, its later siblings; its number tells kind and begin
abbrev numbered : ℕ → ℕ → ℕ → ℕ → ℕ → ℕ → Head
numbered i k r b e v = record { kind = k; role = r; spot = record { begin = b; end = e; value = v }; number = i }

abbrev head : ℕ → ℕ → ℕ → ℕ → ℕ → Head
head k r b e v = numbered (100 * k + b) k r b e v

abbrev n : ℕ → ℕ → ℕ → ℕ → ℕ → Forest → Forest → Forest
n k r b e v kids more = node (head k r b e v) kids more

-- the identifier that print is called with
abbrev used_a : ℕ → ℕ → ℕ → Head
used_a b e v = head 20 0 b e v

abbrev span : ℕ → ℕ → Span
span b e = record { begin = b; end = e }

-- the values, as a file has them: 0 a, 1 c, 2 f, 3 i, 4 xs, 5 None, 6 fail, 7 print, 8 the integer 1
abbrev is_none : ℕ → Bool
is_none = eqb 5

abbrev is_fail : ℕ → Bool
is_fail = eqb 6

-- no name begins with an underscore, no value is a string
abbrev never : ℕ → Bool
never x = false

-- statements of a role, from a place on: print(a), a = 1, fail()
abbrev prints : ℕ → ℕ → Forest → Forest
prints r b more = n 5 r b (b + 8) 65535 (n 23 4 b (b + 8) 65535 (n 20 7 b (b + 5) 7 leaf (n 20 0 (b + 6) (b + 7) 0 leaf leaf)) leaf) more

abbrev assigns : ℕ → ℕ → Forest → Forest
assigns r b more = n 6 r b (b + 5) 65535 (n 40 5 b (b + 1) 0 leaf (n 21 4 (b + 4) (b + 5) 8 leaf leaf)) more

abbrev fails_at : ℕ → ℕ → Forest → Forest
fails_at r b more = n 5 r b (b + 6) 65535 (n 23 4 b (b + 6) 65535 (n 20 7 b (b + 4) 6 leaf leaf) leaf) more

-- break (1), continue (2), pass (3) or a bare return (4); return 1
abbrev bare_of : ℕ → ℕ → ℕ → Forest → Forest
bare_of k r b more = n k r b (b + 6) 65535 leaf more

abbrev returns_one : ℕ → ℕ → Forest → Forest
returns_one r b more = n 4 r b (b + 8) 65535 (n 21 4 (b + 7) (b + 8) 8 leaf leaf) more

abbrev list : ℕ → Forest → Forest
list r kids = n 8 r 0 90 65535 kids leaf

abbrev if_c : ℕ → ℕ → Forest → Forest → Forest
if_c r b side more = n 9 r b (b + 12) 65535 (n 20 4 (b + 3) (b + 4) 1 leaf side) more

abbrev if_else_c : ℕ → ℕ → Forest → Forest → Forest
if_else_c r b sides more = n 10 r b (b + 30) 65535 (n 20 4 (b + 3) (b + 4) 1 leaf sides) more

abbrev for_i : ℕ → ℕ → Forest → Forest → Forest
for_i r b side more = n 11 r b (b + 50) 65535 (n 40 5 (b + 4) (b + 5) 3 leaf (n 20 4 (b + 9) (b + 11) 4 leaf side)) more

abbrev def_f : ℕ → ℕ → Forest → Forest → Forest
def_f r b side more = n 12 r b (b + 50) 65535 (n 40 6 (b + 4) (b + 5) 2 leaf side) more

abbrev warnings : Forest → List Rec
warnings f = map (told (met (body is_fail f))) (names never is_fail none f)

abbrev findings : Forest → List Rec
findings f = flow is_fail is_none never f

abbrev module_of : Forest → Cmd
module_of f = body is_fail f

abbrev theorem : (f : Forest) → T (valid f) → Premises f → Demand3 is_fail is_none f (warnings f) (findings f)
theorem f v p = demand3 is_fail never is_none never none f v p

-- THE USE IS REACHED: print(a); a = 1
abbrev early : Forest
early = list 0 (prints 0 0 (assigns 0 10 leaf))

early_valid : T (valid early)
unfolding valid root_fits fitting kids_fit all_stand all_filled many in_order in_pairs for_first class_of slot_of
early_valid = tt

early_reached : Reach (used_a 6 7 0) (module_of early) nobody
early_reached = first (first (first (first (second uses (first (here tt))))))

early_told : Told (used_a 6 7 0) (warnings early)
early_told = (theorem early early_valid (record { unlike = tt; looped = tt })).unset of_module (used_a 6 7 0) tt early_reached

early_list : warnings early ≡ named_at 4 (used_a 6 7 0) ∷ []
early_list = refl

-- print(a), wherever it stands in a list, reaches its use of a
printed : (b : ℕ) (more : Forest) {σ : Held} → T (not (σ 0))
    → Reach (used_a (b + 6) (b + 7) 0) (takes is_fail (of_role 0) (prints 0 b more)) σ
printed b more t = first (first (first (second uses (first (here t)))))

-- A LOOP RUNS NO TIME: for i in xs: a = 1; then print(a)
abbrev idle : Forest
idle = list 0 (for_i 0 0 (assigns 1 14 leaf) (prints 0 60 leaf))

idle_valid : T (valid idle)
unfolding valid root_fits fitting kids_fit all_stand all_filled many in_order in_pairs for_first class_of slot_of
idle_valid = tt

idle_reached : Reach (used_a 66 67 0) (module_of idle) nobody
idle_reached = first (second (next (next uses skips) done) (printed 60 leaf tt))

idle_told : Told (used_a 66 67 0) (warnings idle)
idle_told = (theorem idle idle_valid (record { unlike = tt; looped = tt })).unset of_module (used_a 66 67 0) tt idle_reached

idle_list : warnings idle ≡ named_at 6 (used_a 66 67 0) ∷ []
idle_list = refl

-- A BREAK, A CONTINUE: for i in xs: (if c: break); a = 1; then print(a). The round that it cuts short sets i, and not a.
abbrev skipping : ℕ → Forest
skipping k = list 0 (for_i 0 0 (n 8 1 14 50 65535 (if_c 0 14 (bare_of k 1 20 leaf) (assigns 0 30 leaf)) leaf) (prints 0 60 leaf))

break_valid : T (valid (skipping 1))
unfolding valid root_fits fitting kids_fit all_stand all_filled many in_order in_pairs for_first class_of slot_of
break_valid = tt

break_reached : Reach (used_a 66 67 0) (module_of (skipping 1)) nobody
break_reached = first (second (next (next uses skips) (out (next (next skips skips)
    (next (next sets skips) (cut (cut (next (next uses skips) (left (cut breaking)))))))))
    (printed 60 leaf tt))

continue_reached : Reach (used_a 66 67 0) (module_of (skipping 2)) nobody
continue_reached = first (second (next (next uses skips) (continues (next (next skips skips)
    (next (next sets skips) (cut (cut (next (next uses skips) (left (cut breaking))))))) done))
    (printed 60 leaf tt))

break_told : Told (used_a 66 67 0) (warnings (skipping 1))
break_told = (theorem (skipping 1) break_valid (record { unlike = tt; looped = tt })).unset of_module (used_a 66 67 0) tt break_reached

-- A ROUND IS RUN: for i in xs: (if c: a = 1); then print(a). The round takes the side that sets no a.
abbrev turned : Forest
turned = list 0 (for_i 0 0 (if_c 1 14 (assigns 1 20 leaf) leaf) (prints 0 60 leaf))

turned_valid : T (valid turned)
unfolding valid root_fits fitting kids_fit all_stand all_filled many in_order in_pairs for_first class_of slot_of
turned_valid = tt

turned_reached : Reach (used_a 66 67 0) (module_of turned) nobody
turned_reached = first (second (next (next uses skips) (round (next (next skips skips)
    (next (next sets skips) (next (next (next uses skips) (right skips)) skips))) done))
    (printed 60 leaf tt))

turned_told : Told (used_a 66 67 0) (warnings turned)
turned_told = (theorem turned turned_valid (record { unlike = tt; looped = tt })).unset of_module (used_a 66 67 0) tt turned_reached

-- ON A SIDE: if c: print(a); then a = 1
abbrev aside : Forest
aside = list 0 (if_c 0 0 (prints 1 6 leaf) (assigns 0 20 leaf))

aside_valid : T (valid aside)
unfolding valid root_fits fitting kids_fit all_stand all_filled many in_order in_pairs for_first class_of slot_of
aside_valid = tt

aside_reached : Reach (used_a 12 13 0) (module_of aside) nobody
aside_reached = first (first (second (next uses skips) (left (first (first (first (second uses (first (here tt)))))))))

aside_told : Told (used_a 12 13 0) (warnings aside)
aside_told = (theorem aside aside_valid (record { unlike = tt; looped = tt })).unset of_module (used_a 12 13 0) tt aside_reached

-- IN A ROUND: for i in xs: (if c: continue; else: print(a)); then a = 1. In the first round, or in one that follows another's end or
-- its continue.
abbrev around_kids : Forest
around_kids = n 40 5 4 5 3 leaf (n 20 4 9 11 4 leaf (if_else_c 1 14 (bare_of 2 1 20 (prints 2 30 leaf)) leaf))

abbrev around : Forest
around = list 0 (n 11 0 0 50 65535 around_kids (assigns 0 60 leaf))

around_valid : T (valid around)
unfolding valid root_fits fitting kids_fit all_stand all_filled many in_order in_pairs for_first class_of slot_of
around_valid = tt

abbrev one_round : Cmd
one_round = takes is_fail (of_role 5) around_kids ⨟ binds 5 around_kids ⨟ takes is_fail (of_role 1) around_kids

in_round : {σ : Held} → T (not (σ 0)) → Reach (used_a 36 37 0) one_round σ
in_round t = second (next skips skips) (second (next sets skips) (first (second (next uses skips) (right
    (first (first (first (second uses (first (here t))))))))))

first_round : Reach (used_a 36 37 0) (loop one_round) nobody
first_round = now (in_round tt)

next_round : Reach (used_a 36 37 0) (loop one_round) nobody
next_round = later (next (next skips skips) (next (next sets skips) (next (next (next uses skips) (right
    (next (next (next (next uses (next uses skips)) skips) skips) skips))) skips))) (now (in_round tt))

after_continue : Reach (used_a 36 37 0) (loop one_round) nobody
after_continue = continued (next (next skips skips) (next (next sets skips) (cut (next (next uses skips) (left (cut breaking))))))
    (now (in_round tt))

around_told : Reach (used_a 36 37 0) (loop one_round) nobody → Told (used_a 36 37 0) (warnings around)
around_told r = (theorem around around_valid (record { unlike = tt; looped = tt })).unset of_module (used_a 36 37 0) tt
    (first (first (second (next uses skips) r)))

-- A DEF IN A LOOP: for i in xs: def f(): a += 1. Its target's name is a use before it is set.
abbrev nested : Forest
nested = list 0 (for_i 0 0 (def_f 1 14 (n 7 1 24 30 65535 (n 40 5 24 25 0 leaf (n 21 4 29 30 8 leaf leaf)) leaf) leaf) leaf)

nested_valid : T (valid nested)
unfolding valid root_fits fitting kids_fit all_stand all_filled many in_order in_pairs for_first class_of slot_of
nested_valid = tt

nested_told : Told (head 40 5 24 25 0) (warnings nested)
nested_told = (theorem nested nested_valid (record { unlike = tt; looped = tt })).unset (of_def (below (below (beside (beside at)))) refl)
    (head 40 5 24 25 0) tt
    (second skips (first (second (next skips skips) (second (next skips skips) (first (first (here tt)))))))

-- A DEF'S END IS REACHED: def f(): if c: return 1
abbrev open_end : Forest
open_end = list 0 (def_f 0 0 (if_c 1 10 (returns_one 1 16 leaf) leaf) leaf)

open_valid : T (valid open_end)
unfolding valid root_fits fitting kids_fit all_stand all_filled many in_order in_pairs for_first class_of slot_of
open_valid = tt

open_run : Run (def_body is_fail (n 40 6 4 5 2 leaf (if_c 1 10 (returns_one 1 16 leaf) leaf))) nobody through nobody
open_run = next skips (next (next (next uses skips) (right skips)) skips)

open_found : Memᴰ (also_at 8 (head 12 0 0 50 65535) 2 (head 4 1 16 24 65535) no_span) (findings open_end)
open_found = (theorem open_end open_valid (record { unlike = tt; looped = tt })).end (record {
  there = below at;
  def = refl;
  wants = refl;
}) open_run

-- A BARE RETURN IS REACHED: def f(): (if c: return); return 1
abbrev bare_end : Forest
bare_end = list 0 (def_f 0 0 (n 8 1 10 50 65535 (if_c 0 10 (bare_of 4 1 16 leaf) (returns_one 0 30 leaf)) leaf) leaf)

bare_valid : T (valid bare_end)
unfolding valid root_fits fitting kids_fit all_stand all_filled many in_order in_pairs for_first class_of slot_of
bare_valid = tt

bare_run : Run (def_body is_fail (n 40 6 4 5 2 leaf (n 8 1 10 50 65535
    (if_c 0 10 (bare_of 4 1 16 leaf) (returns_one 0 30 leaf)) leaf))) nobody (by (bare (head 4 1 16 22 65535))) nobody
bare_run = next skips (cut (cut (next (next uses skips) (left (cut (next skips (returns tt)))))))

bare_found : Memᴰ (also_at 7 (head 4 1 16 22 65535) 2 (head 12 0 0 50 65535) (span 30 38)) (findings bare_end)
bare_found = (theorem bare_end bare_valid (record { unlike = tt; looped = tt })).bare_return (record {
  there = below at;
  def = refl;
  wants = refl;
}) bare_run

-- A RETURN IN A LOOP: def f(): (for i in xs: return); return 1
abbrev leaving_kids : Forest
leaving_kids = n 40 6 4 5 2 leaf (n 8 1 10 80 65535 (for_i 0 10 (bare_of 4 1 24 leaf) (returns_one 0 70 leaf)) leaf)

abbrev leaving : Forest
leaving = list 0 (n 12 0 0 80 65535 leaving_kids leaf)

leaving_valid : T (valid leaving)
unfolding valid root_fits fitting kids_fit all_stand all_filled many in_order in_pairs for_first class_of slot_of
leaving_valid = tt

leaving_run : Run (def_body is_fail leaving_kids) nobody (by (bare (head 4 1 24 30 65535))) (hold (head 40 5 14 15 3) nobody)
leaving_run = next skips (cut (cut (next (next uses skips) (away tt
    (next (next skips skips) (next (next sets skips) (cut (next skips (returns tt)))))))))

leaving_found : Memᴰ (also_at 7 (head 4 1 24 30 65535) 2 (head 12 0 0 80 65535) (span 70 78)) (findings leaving)
leaving_found = (theorem leaving leaving_valid (record { unlike = tt; looped = tt })).bare_return (record {
  there = below at;
  def = refl;
  wants = refl;
}) leaving_run

-- A CALL OF FAIL NEVER FINISHES: def f(): (if c: return 1; else: fail()). No run reaches the end, and the flow list is empty.
abbrev shut_end : Forest
shut_end = list 0 (def_f 0 0 (if_else_c 1 10 (returns_one 1 16 (fails_at 2 30 leaf)) leaf) leaf)

shut_valid : T (valid shut_end)
unfolding valid root_fits fitting kids_fit all_stand all_filled many in_order in_pairs for_first class_of slot_of
shut_valid = tt

shut_run : {τ : Held} → Run (def_body is_fail (n 40 6 4 5 2 leaf (if_else_c 1 10
    (returns_one 1 16 (fails_at 2 30 leaf)) leaf))) nobody through τ → ⊥
shut_run r = Memᴰ.not-nil ((theorem shut_end shut_valid (record { unlike = tt; looped = tt })).end (record {
  there = below at;
  def = refl;
  wants = refl;
}) r)

shut_list : findings shut_end ≡ []
shut_list = refl

-- THE FIRST PREMISE: def f(a): pass; print(a); a = 1, where the parameter a has the span of the a that is printed.
-- The parameter is warned first, under 3, and so the use is under 3 alone; the record has the parameter, which is met first.
abbrev shared : Forest
shared = list 0 (n 12 0 20 40 65535 (n 40 6 24 25 2 leaf (n 43 0 6 7 0 leaf (bare_of 3 1 34 leaf))) (prints 0 0 (assigns 0 50 leaf)))

shared_valid : T (valid shared)
unfolding valid root_fits fitting kids_fit all_stand all_filled many in_order in_pairs for_first class_of slot_of
shared_valid = tt

shared_reached : Reach (used_a 6 7 0) (module_of shared) nobody
shared_reached = first (second (next (next skips skips) (next skips (next (next sets skips) apart))) (printed 0 (assigns 0 50 leaf) tt))

shared_list : warnings shared ≡ named_at 3 (head 43 0 6 7 0) ∷ []
shared_list = refl

not_three : (c : ℕ) → (c ≡ 3 → ⊥) → Memᴰ (named_at c (used_a 6 7 0)) (warnings shared) → ⊥
not_three c x (Memᴰ.head e) = x (ap (λ (w : Rec). w.code) e)
not_three c x (Memᴰ.tail m) = Memᴰ.not-nil m

shared_untold : Told (used_a 6 7 0) (warnings shared) → ⊥
shared_untold (inl m) = not_three 4 (λ e. omega arith) m
shared_untold (inr m) = not_three 6 (λ e. omega arith) m

shared_premises : (names_apart shared ≡ false) × (jumps_in_loops shared ≡ true)
shared_premises = (refl, refl)

-- THE SECOND PREMISE: (if c: break; else: a = 1); print(a), outside every loop. The walk takes the side of the break for left, and warns nothing.
-- Here no run goes on after that break, so nothing is missed. Were it to do nothing, as pass (3) does in its place, the print would be reached with a unset.
abbrev astray : ℕ → Forest
astray k = list 0 (if_else_c 0 0 (bare_of k 1 6 (assigns 2 20 leaf)) (prints 0 40 leaf))

astray_valid : T (valid (astray 1))
unfolding valid root_fits fitting kids_fit all_stand all_filled many in_order in_pairs for_first class_of slot_of
astray_valid = tt

astray_list : warnings (astray 1) ≡ []
astray_list = refl

astray_unreached : Reach (used_a 46 47 0) (module_of (astray 1)) nobody → ⊥
astray_unreached r = none_told ((demand3_more is_fail never is_none never none (astray 1) astray_valid tt).unset of_module
    (used_a 46 47 0) tt r)
  where
    none_told : Told (used_a 46 47 0) [] → ⊥
    none_told (inl m) = Memᴰ.not-nil m
    none_told (inr m) = Memᴰ.not-nil m

passed_reached : Reach (used_a 46 47 0) (module_of (astray 3)) nobody
passed_reached = first (second (next (next uses skips) (left (next skips skips))) (printed 40 leaf tt))

astray_premises : (names_apart (astray 1) ≡ true) × (jumps_in_loops (astray 1) ≡ false)
astray_premises = (refl, refl)

-- a loop outside the def isn't one of the def's own body: for i in xs: def f(): break
foreign_loop : jumps_in_loops (list 0 (for_i 0 0 (def_f 1 14 (bare_of 1 1 24 leaf) leaf) leaf)) ≡ false
foreign_loop = refl

-- A FUNCTION ABORT STAYS AFTER A LOOP: (if c: return; for i in xs: pass; else: a = 1); print(a). The first side has returned,
-- so a is Definitely after it; were the abort cleared after the loop, the print would be under 6.
abbrev returned : Forest
returned =
    list 0
    (if_else_c 0 0 (n 8 1 6 60 65535 (bare_of 4 0 6 (for_i 0 12 (bare_of 3 1 30 leaf) leaf)) (assigns 2 70 leaf)) (prints 0 80 leaf))

returned_valid : T (valid returned)
unfolding valid root_fits fitting kids_fit all_stand all_filled many in_order in_pairs for_first class_of slot_of
returned_valid = tt

returned_list : warnings returned ≡ []
returned_list = refl

-- SIDES BY ROLE: an if-else whose role 2 stands before its role 1, each (return; pass). Reachable takes role 1 first.
abbrev swapped : Forest
swapped =
    list 0
    (if_else_c 0 0 (n 8 2 6 18 65535 (bare_of 4 0 6 (bare_of 3 0 12 leaf)) (n 8 1 20 32 65535 (bare_of 4 0 20 (bare_of 3 0 26 leaf)) leaf)) leaf)

swapped_list : findings swapped ≡ plainly 9 (head 3 0 26 32 65535) ∷ plainly 9 (head 3 0 12 18 65535) ∷ []
swapped_list = refl

-- A FILE'S BYTES: 01's for i in xs with print(a), a = 1 inside (Known). It is judged valid, its tree meets the premises, a run reaches
-- the use of a in the first round, and so the use is told; under 6, as the list shows.
pub bytes_valid : judged looped_file ≡ Ok (record { version = 1; nodes = 12; values = 5; names = 4; globals = 65535; rest = 228 })
unfolding judged checks facts_of first_of_places u16_at u32_at version_of node_count value_count global_count kind_at role_at size_at begin_at end_at value_at last_at node_spot node_head forest_in forest_of tree_of offset formed precedes wrong_value wrong_global parent_in parent_of limit_of known wrong_node depth_in depth_of too_deep class_of slot_of all_stand many all_filled in_pairs for_first in_order kids_fit root_ok wrong_children
bytes_valid = refl

-- its tree, drawn, each node with its number
abbrev m : ℕ → ℕ → ℕ → ℕ → ℕ → ℕ → Forest → Forest → Forest
m i k r b e v kids more = node (numbered i k r b e v) kids more

abbrev drawn : Forest
drawn = m 0 8 0 0 32 65535 (m 1 11 0 0 31 65535 (m 2 40 5 4 5 1 leaf (m 3 20 4 9 11 2 leaf (m 4 8 1 15 31 65535
    (m 5 5 0 15 23 65535 (m 6 23 4 15 23 65535 (m 7 20 7 15 20 3 leaf (m 8 20 0 21 22 0 leaf leaf)) leaf)
    (m 9 6 0 26 31 65535 (m 10 40 5 26 27 0 leaf (m 11 21 4 30 31 4 leaf leaf)) leaf)) leaf))) leaf) leaf

-- the use of a in it
abbrev printed_a : Head
printed_a = numbered 8 20 0 21 22 0

bytes_tree : tree_of looped_file ≡ drawn
unfolding u16_at u32_at node_count value_count kind_at role_at size_at begin_at end_at value_at node_spot node_head forest_in forest_of tree_of
bytes_tree = refl

pub bytes_premises : Premises (tree_of looped_file)
bytes_premises = subst Premises (sym bytes_tree) (record { unlike = tt; looped = tt })

-- whatever fail is
drawn_reached : (p : ℕ → Bool) → Reach printed_a (body p drawn) nobody
drawn_reached p = first (first (second (next uses skips) (now (second (next skips skips) (second (next sets skips)
    (first (first (first (first (second uses (first (here tt))))))))))))

drawn_own : T (own 0 (body (spells (table_of looped_file) fail_name) drawn))
unfolding u16_at node_count value_count
drawn_own = tt

pub bytes_reached : Reach printed_a (body (spells (table_of looped_file) fail_name) (tree_of looped_file)) nobody
bytes_reached = subst (λ (f : Forest). Reach printed_a (body (spells (table_of looped_file) fail_name) f) nobody) (sym bytes_tree)
    (drawn_reached (spells (table_of looped_file) fail_name))

bytes_own : T (own 0 (body (spells (table_of looped_file) fail_name) (tree_of looped_file)))
bytes_own = subst (λ (f : Forest). T (own 0 (body (spells (table_of looped_file) fail_name) f))) (sym bytes_tree)
    drawn_own

pub bytes_told : Told printed_a (names_list looped_file)
bytes_told = (the_demand looped_file (record { version = 1; nodes = 12; values = 5; names = 4; globals = 65535; rest = 228 }) bytes_valid bytes_premises
    ).unset of_module printed_a bytes_own bytes_reached

pub bytes_list : names_list looped_file ≡ named_at 6 printed_a ∷ []
unfolding u16_at u32_at node_count value_count kind_at role_at size_at begin_at end_at value_at node_spot node_head forest_in forest_of tree_of global_count offset met_in names_list
bytes_list = refl
