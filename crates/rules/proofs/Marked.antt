-- The walk with marks on entries says what the rules say: the simulation.
use Prim.Native.Nat.{ℕ, suc}
use mathlib.Core.Path.{◌≡◌, refl, sym, ◌∙◌, ap, subst, fun_ext}
use mathlib.Core.Bool.{Bool, true, false, ◌||◌, ◌&&◌, not, cond}
use mathlib.Core.List.{List, [], ◌∷◌, ◌++◌, append_assoc, append-nil, map}
use mathlib.Core.Option.{Option, none, some}
use lib.Dec.{eqb, leb, T, eqb→eq, eqb_refl}
use Rattle.tree.specs.Forest.{Spot, Forest, tree_of}
use Rattle.tree.specs.Table.{table_of, spells, underscored, globals_of}
use Rattle.rules.specs.Order.{Sort, Cmd, skip, ◌⨟◌, use_of, set_of, stop, branch, loop, scope, body, fail_name}
use Rattle.rules.specs.Record.{keep}
use Rattle.rules.specs.Names.{Abort, aborts, stop_abort, Standing, absent, maybe, definitely, Spots, spots, sure, stand, has_standing, stand_if, join, join_sure, smaller, unloop, same, has_name, Setting, set_names, Scope, fresh, Warning, State, warn, warn_if, warn_all, mark, stands, Found, nowhere, surely, perhaps, Search, search_step, search_out, use_out, use_as, branch_of, same_state, round, rounds, unused, is_assign, spared, idle, farewell, enter, passed, leave_to, walk, undefined, names_of, names, met_in, told, names_list}
use Rattle.rules.proofs.Keep.{scope_same}
use Rattle.rules.specs.code.Marks.{put, inside, add, adds, same_setting, Level, Absent, Maybe, Definitely, Entry, Chamber, House, empty_room, setting_of, settings_of, find, level_at, used_at, held_at, reset, resets, has_entry, set_entry, set_room, marks, mark_room, cannot_room, unbinds_room, stop_room, Looked, look_step, look_out, use_away, use_level, Note, notes, later_notes, restore, has_level, sure_level, level_if, join_level, merge, back_room, join_room, branch_house, same_house, round_house, rounds_house, spared_room, idle_room, sets_name, farewell_room, passed_room, enter_house, leave_house, tour, undefined_room, names_tour}
use Rattle.rules.proofs.Bools.{nope, so, or_left, or_right, or_case}
use Rattle.rules.proofs.Once.{once, adds_append}
use Rattle.rules.proofs.Lean.{setting_sound, set_lean, cannot_lean, unbinds_lean, slim, slims, slim_cannot, slim_both, slim_set, slim_unbinds, passed_warns, farewell_slim, middle}
use Rattle.rules.proofs.Spots.{same_sound, same_exact}

by_case : (P : Bool → Type 0) (b : Bool) → (T b → P true) → (T (not b) → P false) → P b
by_case P true f g = f tt
by_case P false f g = g tt

cond_same : {A : Type 0} (b : Bool) (a : A) → cond b a a ≡ a
cond_same true a = refl
cond_same false a = refl

clash : {P : Type 0} (b : Bool) → T b → T (not b) → P
clash true t u = absurd u
clash false t u = absurd t

-- the entries' settings
settings_resets : (s : Spot) (es : List Entry) → settings_of (resets s es) ≡ settings_of es
settings_resets s [] = refl
settings_resets s (e ∷ es) = ap (λ (l : List Setting). setting_of e ∷ l) (settings_resets s es)

settings_last : (es : List Entry) (n : Entry) → settings_of (es ++ (n ∷ [])) ≡ settings_of es ++ (setting_of n ∷ [])
settings_last [] n = refl
settings_last (e ∷ es) n = ap (λ (l : List Setting). setting_of e ∷ l) (settings_last es n)

has_inside : (k : Setting) (es : List Entry) → has_entry k es ≡ inside same_setting k (settings_of es)
has_inside k [] = refl
has_inside k (e ∷ es) = ap (λ (b : Bool). same_setting k (setting_of e) || b) (has_inside k es)

settings_put : (b : Bool) (s : Spot) (n : Entry) (es : List Entry)
    → settings_of (put b n (resets s es)) ≡ put b (setting_of n) (settings_of es)
settings_put true s n es = settings_resets s es
settings_put false s n es = settings_last (resets s es) n ∙ ap (λ (l : List Setting). l ++ (setting_of n ∷ [])) (settings_resets s es)

pub settings_set : (o : Sort) (s : Spot) (es : List Entry)
    → settings_of (set_entry o s es) ≡ add same_setting (record { sort = o; spot = s }) (settings_of es)
settings_set o s es = settings_put (has_entry (record { sort = o; spot = s }) es) s (record {
  sort = o;
  spot = s;
  used = false;
  held = true;
  level = Definitely;
}) es
    ∙ ap (λ (b : Bool). put b (record { sort = o; spot = s }) (settings_of es)) (has_inside (record { sort = o; spot = s }) es)

pub settings_marks : (x : ℕ) (es : List Entry) → settings_of (marks x es) ≡ settings_of es
settings_marks x [] = refl
settings_marks x (e ∷ es) = ap (λ (l : List Setting). setting_of e ∷ l) (settings_marks x es)

pub settings_restore : (ns : List Note) (es : List Entry) → settings_of (restore ns es) ≡ settings_of es
settings_restore ns [] = refl
settings_restore ns (e ∷ es) = ap (λ (l : List Setting). setting_of e ∷ l) (settings_restore (later_notes ns) es)

pub settings_merge : (a b : Abort) (ns : List Note) (es : List Entry) → settings_of (merge a b ns es) ≡ settings_of es
settings_merge a b ns [] = refl
settings_merge a b ns (e ∷ es) = ap (λ (l : List Setting). setting_of e ∷ l) (settings_merge a b (later_notes ns) es)

names_settings : (x : ℕ) (es : List Entry) → sets_name x es ≡ set_names x (settings_of es)
names_settings x [] = refl
names_settings x (e ∷ es) = ap (λ (b : Bool). eqb x e.spot.value || b) (names_settings x es)

-- what an entry is found to have after a setting
hits : (Spot → Bool) → List Entry → Bool
hits q [] = false
hits q (e ∷ es) = q e.spot || hits q es

module _ {B : Type 0} (q : Spot → Bool) (f : Entry → B) (z : B) where
  -- every entry that counts has v
  find_hit : (s : Spot) (v : B) → ((e : Entry) → T (q e.spot) → f (reset s e) ≡ v) → (es t : List Entry)
      → find q f z (resets s es ++ t) ≡ cond (hits q es) v (find q f z t)
  unfolding hits
  find_hit s v h [] t = refl
  find_hit s v h (e ∷ es) t = by_case (λ b. cond b (f (reset s e)) (find q f z (resets s es ++ t)) ≡ cond (b || hits q es) v
      (find q f z t)) (q e.spot)
      (h e) (λ k. find_hit s v h es t)

  -- every entry that counts stays
  find_miss : (s : Spot) → ((e : Entry) → T (q e.spot) → f (reset s e) ≡ f e) → (es : List Entry)
      → find q f z (resets s es) ≡ find q f z es
  find_miss s h [] = refl
  find_miss s h (e ∷ es) = by_case (λ b. cond b (f (reset s e)) (find q f z (resets s es)) ≡ cond b (f e) (find q f z es)) (q e.spot)
      (h e) (λ k. find_miss s h es)

  find_last : (n : Entry) → (T (q n.spot) → f n ≡ z) → (es : List Entry) → find q f z (es ++ (n ∷ [])) ≡ find q f z es
  find_last n h [] = by_case (λ b. cond b (f n) z ≡ z) (q n.spot) h (λ k. refl)
  find_last n h (e ∷ es) = ap (cond (q e.spot) (f e)) (find_last n h es)

  has_hits : (o : Sort) (s : Spot) → T (q s) → (es : List Entry) → T (has_entry (record { sort = o; spot = s }) es) → T (hits q es)
  unfolding hits
  has_hits o s k [] t = absurd t
  has_hits o s k (e ∷ es) t = or_case (same_setting (record { sort = o; spot = s }) (setting_of e))
      (has_entry (record { sort = o; spot = s }) es)
      (λ u. or_left (q e.spot) (hits q es) (subst (λ (r : Setting). T (q r.spot))
      (setting_sound (record { sort = o; spot = s }) (setting_of e) u) k))
      (λ u. or_right (q e.spot) (hits q es) (has_hits o s k es u)) t

  -- what is found after a setting: v, where it counts
  put_hit : (b : Bool) (o : Sort) (s : Spot) (n : Entry) (v : B) → n.spot ≡ s → ((e : Entry) → T (q e.spot) → f (reset s e) ≡ v)
      → (T (q s) → f n ≡ v) → (T (not (q s)) → z ≡ v)
      → (es : List Entry) → (T b → T (has_entry (record { sort = o; spot = s }) es)) → find q f z (put b n (resets s es)) ≡ v
  put_hit true o s n v p h k m es t = ap (find q f z) (sym (append-nil (resets s es))) ∙ find_hit s v h es []
      ∙ by_case (λ (b : Bool). (b ≡ q s) → cond (hits q es) v z ≡ v) (q s)
      (λ y e. ap (λ (b : Bool). cond b v z) (so (hits q es) (has_hits o s y es (t tt))))
      (λ y e. ap (cond (hits q es) v) (m y) ∙ cond_same (hits q es) v) refl
  put_hit false o s n v p h k m es t = find_hit s v h es (n ∷ [])
      ∙ ap (cond (hits q es) v) (by_case (λ (b : Bool). (b ≡ q n.spot)
      → cond b (f n) z ≡ v) (q n.spot) (λ y e. k (subst (λ (r : Spot). T (q r)) p y))
      (λ y e. m (subst (λ (r : Spot). T (not (q r))) p y)) refl)
      ∙ cond_same (hits q es) v

  put_miss : (b : Bool) (s : Spot) (n : Entry) → ((e : Entry) → T (q e.spot) → f (reset s e) ≡ f e) → (T (q n.spot) → f n ≡ z)
      → (es : List Entry) → find q f z (put b n (resets s es)) ≡ find q f z es
  put_miss true s n h k es = find_miss s h es
  put_miss false s n h k es = find_last n k (resets s es) ∙ find_miss s h es

-- a setting
abbrev new_entry : Sort → Spot → Entry
new_entry o s = record { sort = o; spot = s; used = false; held = true; level = Definitely }

level_set : (o : Sort) (s : Spot) (es : List Entry) (x : ℕ)
    → level_at x (set_entry o s es) ≡ cond (eqb x s.value) Definitely (level_at x es)
level_set o s es x = by_case (λ b. b ≡ eqb x s.value → level_at x (set_entry o s es) ≡ cond b Definitely (level_at x es))
    (eqb x s.value)
    (λ y e. put_hit (λ t. eqb x t.value) (λ r. r.level) Absent (has_entry (record { sort = o; spot = s }) es) o s
    (new_entry o s) Definitely refl
    (λ r k. ap (λ (b : Bool). cond b Definitely r.level)
    (so (eqb r.spot.value s.value) (subst (λ (v : ℕ). T (eqb v s.value)) (eqb→eq x r.spot.value k) y)))
    (λ k. refl) (λ k. clash (eqb x s.value) y k) es (λ t. t))
    (λ y e. put_miss (λ t. eqb x t.value) (λ r. r.level) Absent (has_entry (record { sort = o; spot = s }) es) s (new_entry o s)
    (λ r k. ap (λ (b : Bool). cond b Definitely r.level)
    (nope (eqb r.spot.value s.value) (subst (λ (v : ℕ). T (not (eqb v s.value))) (eqb→eq x r.spot.value k) y)))
    (λ k. clash (eqb x s.value) k y) es) refl

used_set : (o : Sort) (s : Spot) (es : List Entry) (t : Spot) → used_at t (set_entry o s es) ≡ used_at t es
used_set o s es t = put_miss (same t) (λ r. r.used) false (has_entry (record { sort = o; spot = s }) es) s (new_entry o s) (λ r k. refl)
    (λ k. refl) es

same_swap : (s t : Spot) → T (same s t) → T (same t s)
same_swap s t k = subst (λ (r : Spot). T (same r s)) (same_sound s t k) (same_exact s)

held_set : (o : Sort) (s : Spot) (es : List Entry) (t : Spot)
    → held_at t (set_entry o s es) ≡ cond (eqb t.value s.value) (same s t) (held_at t es)
held_set o s es t = by_case (λ b. b ≡ eqb t.value s.value → held_at t (set_entry o s es) ≡ cond b (same s t) (held_at t es))
    (eqb t.value s.value)
    (λ y e. put_hit (same t) (λ r. r.held) false (has_entry (record { sort = o; spot = s }) es) o s (new_entry o s) (same s t) refl
    (λ r k. subst (λ (p : Spot). cond (eqb p.value s.value) (same s p) r.held ≡ same s t) (same_sound t r.spot k)
    (ap (λ (b : Bool). cond b (same s t) r.held) (so (eqb t.value s.value) y)))
    (λ k. sym (so (same s t) (same_swap t s k)))
    (λ k. sym (nope (same s t) (by_case (λ b. b ≡ same s t
    → T (not b)) (same s t) (λ u e. clash (same t s) (same_swap s t u) k) (λ u e. tt) refl)))
    es (λ u. u))
    (λ y e. put_miss (same t) (λ r. r.held) false (has_entry (record { sort = o; spot = s }) es) s (new_entry o s)
    (λ r k. subst (λ (p : Spot). cond (eqb p.value s.value) (same s p) r.held ≡ r.held) (same_sound t r.spot k)
    (ap (λ (b : Bool). cond b (same s t) r.held) (nope (eqb t.value s.value) y)))
    (λ k. clash (eqb t.value s.value) (subst (λ (p : Spot). T (eqb t.value p.value)) (same_sound t s k)
    (eqb_refl t.value)) y) es) refl

-- a use
level_marks : (x y : ℕ) (es : List Entry) → level_at y (marks x es) ≡ level_at y es
level_marks x y [] = refl
level_marks x y (e ∷ es) = ap (cond (eqb y e.spot.value) e.level) (level_marks x y es)

held_marks : (x : ℕ) (t : Spot) (es : List Entry) → held_at t (marks x es) ≡ held_at t es
held_marks x t [] = refl
held_marks x t (e ∷ es) = ap (cond (same t e.spot) e.held) (held_marks x t es)

and_false : (b : Bool) → false ≡ b && false
and_false true = refl
and_false false = refl

used_marks : (x : ℕ) (t : Spot) (es : List Entry) → used_at t (marks x es) ≡ used_at t es || (eqb x t.value && held_at t es)
used_marks x t [] = and_false (eqb x t.value)
used_marks x t (e ∷ es) = by_case (λ b. cond b (e.used || (eqb x e.spot.value && e.held)) (used_at t (marks x es))
    ≡ cond b e.used (used_at t es) || (eqb x t.value && cond b e.held (held_at t es))) (same t e.spot)
    (λ k. ap (λ (p : Spot). e.used || (eqb x p.value && e.held)) (sym (same_sound t e.spot k)))
    (λ k. used_marks x t es)

-- a branch
abbrev Longer : List Entry → List Entry → Type 0
Longer [] bs = Unit {0}
Longer (a ∷ r) [] = ⊥
Longer (a ∷ r) (b ∷ bs) = (a.spot ≡ b.spot) × Longer r bs

longer : (es fs : List Entry) (l : List Setting) → settings_of fs ≡ settings_of es ++ l → Longer es fs
longer [] fs l e = tt
longer (a ∷ r) [] l e = let z : ◌≡◌ {A = ℕ} 0 1 = cc in absurd (subst (λ (n : ℕ). T (eqb 0 n)) z tt)
longer (a ∷ r) (b ∷ bs) l e = let p : setting_of a ≡ setting_of b = cc in let q : settings_of bs ≡ settings_of r ++ l = cc in
    (ap (λ (k : Setting). k.spot) p, longer r bs l q)

used_restore : (ns : List Note) (t : Spot) (es : List Entry) → used_at t (restore ns es) ≡ used_at t es
used_restore ns t [] = refl
used_restore ns t (e ∷ es) = ap (cond (same t e.spot) e.used) (used_restore (later_notes ns) t es)

level_restored : (x : ℕ) (fs : List Entry) → level_at x (restore [] fs) ≡ Absent
level_restored x [] = refl
level_restored x (e ∷ es) = ap (cond (eqb x e.spot.value) Absent) (level_restored x es) ∙ cond_same (eqb x e.spot.value) Absent

level_restore : (x : ℕ) (es fs : List Entry) → Longer es fs → level_at x (restore (notes es) fs) ≡ level_at x es
level_restore x [] fs h = level_restored x fs
level_restore x (a ∷ r) [] h = absurd h
level_restore x (a ∷ r) (b ∷ bs) h = ap (cond (eqb x b.spot.value) a.level) (level_restore x r bs h.1)
    ∙ ap (λ (p : Spot). cond (eqb x p.value) a.level (level_at x r)) (sym h.0)

held_restored : (t : Spot) (fs : List Entry) → held_at t (restore [] fs) ≡ false
held_restored t [] = refl
held_restored t (e ∷ es) = ap (cond (same t e.spot) false) (held_restored t es) ∙ cond_same (same t e.spot) false

held_restore : (t : Spot) (es fs : List Entry) → Longer es fs → held_at t (restore (notes es) fs) ≡ held_at t es
held_restore t [] fs h = held_restored t fs
held_restore t (a ∷ r) [] h = absurd h
held_restore t (a ∷ r) (b ∷ bs) h = ap (cond (same t b.spot) a.held) (held_restore t r bs h.1)
    ∙ ap (λ (p : Spot). cond (same t p) a.held (held_at t r)) (sym h.0)

used_merge : (a b : Abort) (ns : List Note) (t : Spot) (es : List Entry) → used_at t (merge a b ns es) ≡ used_at t es
used_merge a b ns t [] = refl
used_merge a b ns t (e ∷ es) = ap (cond (same t e.spot) e.used) (used_merge a b (later_notes ns) t es)

level_merged : (a b : Abort) (x : ℕ) (fs : List Entry) → level_at x (merge a b [] fs) ≡ join_level a b Absent (level_at x fs)
level_merged a b x [] = refl
level_merged a b x (e ∷ es) = by_case (λ k. cond k (join_level a b Absent e.level)
    (level_at x (merge a b [] es)) ≡ join_level a b Absent (cond k e.level (level_at x es))) (eqb x e.spot.value)
    (λ k. refl) (λ k. level_merged a b x es)

level_merge : (a b : Abort) (x : ℕ) (es fs : List Entry) → Longer es fs
    → level_at x (merge a b (notes es) fs) ≡ join_level a b (level_at x es) (level_at x fs)
level_merge a b x [] fs h = level_merged a b x fs
level_merge a b x (c ∷ r) [] h = absurd h
level_merge a b x (c ∷ r) (e ∷ es) h = by_case (λ k. cond k (join_level a b c.level e.level)
    (level_at x (merge a b (notes r) es)) ≡ join_level a b (cond k c.level (level_at x r)) (cond k e.level (level_at x es)))
    (eqb x e.spot.value) (λ k. refl) (λ k. level_merge a b x r es h.1)
    ∙ ap (λ (p : Spot). join_level a b (cond (eqb x p.value) c.level (level_at x r))
    (cond (eqb x e.spot.value) e.level (level_at x es))) (sym h.0)

held_merged : (a b : Abort) (t : Spot) (fs : List Entry) → held_at t (merge a b [] fs) ≡ held_at t fs
held_merged a b t [] = refl
held_merged a b t (e ∷ es) = ap (cond (same t e.spot) e.held) (held_merged a b t es)

held_merge : (a b : Abort) (t : Spot) (es fs : List Entry) → Longer es fs → held_at t (merge a b (notes es) fs) ≡ held_at t es
    || held_at t fs
held_merge a b t [] fs h = held_merged a b t fs
held_merge a b t (c ∷ r) [] h = absurd h
held_merge a b t (c ∷ r) (e ∷ es) h = by_case (λ k. cond k (c.held || e.held) (held_at t (merge a b (notes r) es)) ≡ cond k c.held
    (held_at t r) || cond k e.held (held_at t es))
    (same t e.spot) (λ k. refl) (λ k. held_merge a b t r es h.1)
    ∙ ap (λ (p : Spot). cond (same t p) c.held (held_at t r) || cond (same t e.spot) e.held (held_at t es)) (sym h.0)

-- THE RELATION of a scope without repeats and an engine's
abbrev pub standing_level : Standing → Level
standing_level absent = Absent
standing_level (maybe ss) = Maybe
standing_level (definitely ss) = Definitely

pub record Shows (c : Scope) (r : Chamber) : Type 0 where
  pub cant : r.cant ≡ c.cant
  pub unbound : r.unbound ≡ c.unbound
  pub abort : r.abort ≡ c.abort
  pub settings : settings_of r.entries ≡ c.settings
  pub level : (x : ℕ) → level_at x r.entries ≡ standing_level (c.standing x)
  pub used : (t : Spot) → used_at t r.entries ≡ c.used t
  pub held : (t : Spot) → held_at t r.entries ≡ spots (c.standing t.value) t

pub data All : List Scope → List Chamber → Type 0 where
  all_nil : All [] []
  all_cons : {c : Scope} {r : Chamber} {cs : List Scope} {rs : List Chamber} → Shows c r → All cs rs → All (c ∷ cs) (r ∷ rs)

-- of a state of the rules and an engine's
pub record Holds (st : State) (m : House) : Type 0 where
  pub here : Shows (slim st.here) m.here
  pub above : All (slims st.above) m.above
  pub out : m.out ≡ st.out

shows_fresh : Shows fresh empty_room
shows_fresh = record { cant = refl; unbound = refl; abort = refl; settings = refl; level = λ x. refl; used = λ t. refl; held = λ t. refl }

level_cond : (b : Bool) (x y : Standing) → standing_level (cond b x y) ≡ cond b (standing_level x) (standing_level y)
level_cond true x y = refl
level_cond false x y = refl

spots_cond : (b : Bool) (x y : Standing) (t : Spot) → spots (cond b x y) t ≡ cond b (spots x t) (spots y t)
spots_cond true x y t = refl
spots_cond false x y t = refl

shows_set : {c : Scope} {r : Chamber} (o : Sort) (s : Spot) → Shows c r → Shows (set_lean o s c) (set_room o s r)
shows_set {c} {r} o s h = record {
  cant = h.cant;
  unbound = h.unbound;
  abort = h.abort;
  settings = settings_set o s r.entries ∙ ap (add same_setting (record { sort = o; spot = s })) h.settings;
  level = λ x. level_set o s r.entries x ∙ ap (cond (eqb x s.value) Definitely) (h.level x)
      ∙ sym (level_cond (eqb x s.value) (definitely (same s)) (c.standing x));
  used = λ t. used_set o s r.entries t ∙ h.used t;
  held = λ t. held_set o s r.entries t ∙ ap (cond (eqb t.value s.value) (same s t)) (h.held t)
      ∙ sym (spots_cond (eqb t.value s.value) (definitely (same s)) (c.standing t.value) t);
}

guard : (b x y : Bool) → (T b → x ≡ y) → b && x ≡ b && y
guard true x y f = f tt
guard false x y f = refl

shows_mark : {c : Scope} {r : Chamber} (x : ℕ) (z : Standing) → c.standing x ≡ z → Shows c r → Shows (mark x (spots z) c) (mark_room x r)
shows_mark {c} {r} x z e h = record {
  cant = h.cant;
  unbound = h.unbound;
  abort = h.abort;
  settings = settings_marks x r.entries ∙ h.settings;
  level = λ y. level_marks x y r.entries ∙ h.level y;
  used = λ t. used_marks x t r.entries ∙ ap (λ (b : Bool). b || (eqb x t.value && held_at t r.entries)) (h.used t)
      ∙ ap (λ (b : Bool). c.used t || b) (guard (eqb x t.value) (held_at t r.entries) (spots z t)
      (λ k. h.held t ∙ ap (λ (y : ℕ). spots (c.standing y) t) (sym (eqb→eq x t.value k)) ∙ ap (λ (y : Standing). spots y t) e));
  held = λ t. held_marks x t r.entries ∙ h.held t;
}

shows_cannot : {c : Scope} {r : Chamber} (s : Spot) → Shows c r → Shows (cannot_lean s c) (cannot_room s r)
shows_cannot s h = record {
  cant = ap (add same s) h.cant;
  unbound = h.unbound;
  abort = h.abort;
  settings = h.settings;
  level = h.level;
  used = h.used;
  held = h.held;
}

shows_unbinds : {c : Scope} {r : Chamber} (ss ts : List Spot) → ts ≡ ss → Shows c r → Shows (unbinds_lean ss c) (unbinds_room ts r)
shows_unbinds {c} {r} ss ts e h = record {
  cant = h.cant;
  unbound = ap (λ (l : List Spot). adds same l r.unbound) e ∙ ap (adds same ss) h.unbound;
  abort = h.abort;
  settings = h.settings;
  level = h.level;
  used = h.used;
  held = h.held;
}

shows_stop : {c : Scope} {r : Chamber} (a : Abort) → Shows c r → Shows (stands c.standing a c) (stop_room a r)
shows_stop a h = record {
  cant = h.cant;
  unbound = h.unbound;
  abort = refl;
  settings = h.settings;
  level = h.level;
  used = h.used;
  held = h.held;
}

shows_back : {c d : Scope} {r one : Chamber} → Longer r.entries one.entries → Shows c r → Shows d one
    → Shows (stands c.standing c.abort d) (back_room r one)
shows_back {c} {d} {r} {one} l h k = record {
  cant = k.cant;
  unbound = k.unbound;
  abort = h.abort;
  settings = settings_restore (notes r.entries) one.entries ∙ k.settings;
  level = λ x. level_restore x r.entries one.entries l ∙ h.level x;
  used = λ t. used_restore (notes r.entries) t one.entries ∙ k.used t;
  held = λ t. held_restore t r.entries one.entries l ∙ h.held t;
}

level_joined : (h b : Bool) (ss : Spots) → standing_level (stand_if h b ss) ≡ level_if h b
level_joined true true ss = refl
level_joined true false ss = refl
level_joined false b ss = refl

has_of : (x : Standing) → has_standing x ≡ has_level (standing_level x)
has_of absent = refl
has_of (maybe ss) = refl
has_of (definitely ss) = refl

sure_as_level : (x : Standing) → sure x ≡ sure_level (standing_level x)
sure_as_level absent = refl
sure_as_level (maybe ss) = refl
sure_as_level (definitely ss) = refl

level_join : (a b : Abort) (x y : Standing) → join_level a b (standing_level x) (standing_level y) ≡ standing_level (join a b x y)
level_join a b x y = sym (level_joined (has_standing x || has_standing y) (join_sure (aborts a) (aborts b) (sure x) (sure y))
    (λ t. spots x t || spots y t)
    ∙ (λ i. level_if (has_of x i || has_of y i) (join_sure (aborts a) (aborts b) (sure_as_level x i) (sure_as_level y i))))

spots_stand : (b : Bool) (ss : Spots) (t : Spot) → ss t ≡ spots (stand b ss) t
spots_stand true ss t = refl
spots_stand false ss t = refl

spots_join : (a b : Abort) (x y : Standing) (t : Spot) → spots x t || spots y t ≡ spots (join a b x y) t
spots_join a b absent absent t = refl
spots_join a b absent (maybe ss) t = spots_stand (join_sure (aborts a) (aborts b) false false) (λ r. false || ss r) t
spots_join a b absent (definitely ss) t = spots_stand (join_sure (aborts a) (aborts b) false true) (λ r. false || ss r) t
spots_join a b (maybe rs) y t = spots_stand (join_sure (aborts a) (aborts b) false (sure y)) (λ r. rs r || spots y r) t
spots_join a b (definitely rs) y t = spots_stand (join_sure (aborts a) (aborts b) true (sure y)) (λ r. rs r || spots y r) t

shows_join : {c d : Scope} {one two : Chamber} → Longer one.entries two.entries → Shows c one → Shows d two
    → Shows (stands (λ x. join c.abort d.abort (c.standing x) (d.standing x)) (smaller c.abort d.abort) d) (join_room one two)
shows_join {c} {d} {one} {two} l h k = record {
  cant = k.cant;
  unbound = k.unbound;
  abort = λ i. smaller (h.abort i) (k.abort i);
  settings = settings_merge one.abort two.abort (notes one.entries) two.entries ∙ k.settings;
  level = λ x. level_merge one.abort two.abort x one.entries two.entries l
      ∙ (λ i. join_level (h.abort i) (k.abort i) (h.level x i) (k.level x i))
      ∙ level_join c.abort d.abort (c.standing x) (d.standing x);
  used = λ t. used_merge one.abort two.abort (notes one.entries) t two.entries ∙ k.used t;
  held = λ t. held_merge one.abort two.abort t one.entries two.entries l
      ∙ (λ i. h.held t i || k.held t i) ∙ spots_join c.abort d.abort (c.standing t.value) (d.standing t.value) t;
}

-- what leaving says
module _ {c : Scope} {r : Chamber} (h : Shows c r) where
  names_same : ◌≡◌ {A = Spot → Bool} (λ s. sets_name s.value r.entries) (λ s. set_names s.value c.settings)
  names_same = fun_ext (λ s. names_settings s.value r.entries ∙ ap (set_names s.value) h.settings)

  passed_same : passed_room r ≡ passed c
  passed_same = λ i. keep (λ s. not (names_same i s)) (h.unbound i)

  spared_same : (u : ℕ → Bool) (top : Bool) (e : Entry) → spared_room u top r e ≡ spared u top c (setting_of e)
  spared_same u true e = λ i. h.used e.spot i || (has_name e.spot.value (h.unbound i)
      || (is_assign e.sort && (not (u e.spot.value) && h.held e.spot i)))
  spared_same u false e = λ i. h.used e.spot i || (has_name e.spot.value (h.unbound i) || u e.spot.value)

  idle_same : (u : ℕ → Bool) (top : Bool) (es : List Entry) (ws : List Warning) → idle_room u top r es ws ≡ idle u top c (settings_of es) ws
  idle_same u top [] ws = refl
  idle_same u top (e ∷ es) ws = idle_same u top es (warn_if (not (spared_room u top r e)) (unused e.sort) e.spot ws)
      ∙ ap (λ (b : Bool). idle u top c (settings_of es) (warn_if (not b) (unused e.sort) e.spot ws)) (spared_same u top e)

  farewell_same : (u : ℕ → Bool) (top : Bool) (ws : List Warning) → farewell_room u top r ws ≡ farewell u top c ws
  farewell_same u top ws = idle_same u top r.entries (warn_all 4 (λ s. sets_name s.value r.entries) r.cant ws)
      ∙ (λ i. idle u top c (h.settings i) (warn_all 4 (names_same i) (h.cant i) ws))

-- the settings only grow
pub record Grown (l k : List Setting) : Type 0 where
  pub more : List Setting
  pub eq : k ≡ l ++ more

grown_refl : (l : List Setting) → Grown l l
grown_refl l = record { more = []; eq = sym (append-nil l) }

grown_trans : {l k j : List Setting} → Grown l k → Grown k j → Grown l j
grown_trans {l} {k} {j} p q = record {
  more = p.more ++ q.more;
  eq = q.eq ∙ ap (λ (r : List Setting). r ++ q.more) p.eq
      ∙ append_assoc l p.more q.more;
}

adds_grow : (m l : List Setting) → Grown l (adds same_setting m l)
adds_grow [] l = grown_refl l
adds_grow (a ∷ r) l = go (inside same_setting a l) (λ k. adds_grow r k)
  where
    go : (b : Bool) → ((k : List Setting) → Grown k (adds same_setting r k)) → Grown l (adds same_setting r (put b a l))
    go true f = f l
    go false f = grown_trans (record { more = a ∷ []; eq = refl }) (f (l ++ (a ∷ [])))

once_grown : {l k : List Setting} → Grown l k → Grown (once same_setting l) (once same_setting k)
once_grown {l} {k} p = let q = adds_grow p.more (once same_setting l) in
    record { more = q.more; eq = ap (once same_setting) p.eq ∙ adds_append same_setting l p.more [] ∙ q.eq }

abbrev pub Grows : (State → State) → Type 0
Grows f = (st : State) → Grown st.here.settings (f st).here.settings

out_grows : (s : Spot) (st : State) (r : Search) (f : Found) → Grown st.here.settings (use_out s st r f).here.settings
out_grows s st r nowhere = grown_refl st.here.settings
out_grows s st r surely = grown_refl st.here.settings
out_grows s st r perhaps = grown_refl st.here.settings

as_grows : (s : Spot) (st : State) (z : Standing) → Grown st.here.settings (use_as s st z).here.settings
as_grows s st absent = let r = search_out s.value st.above in out_grows s st r r.found
as_grows s st (maybe ss) = grown_refl st.here.settings
as_grows s st (definitely ss) = grown_refl st.here.settings

branch_grows : (f g : State → State) → Grows f → Grows g → Grows (branch_of f g)
branch_grows f g p q st = grown_trans (p st) (q (middle st (f st)))

round_grows : (f : State → State) → Grows f → Grows (round f)
round_grows f p st = branch_grows f same_state p (λ t. grown_refl t.here.settings) st

rounds_grows : (b : Bool) (f : State → State) → Grows f → Grows (rounds b f)
rounds_grows true f p st = grown_trans (round_grows f p st) (round_grows f p (round f st))
rounds_grows false f p st = round_grows f p st

module _ (u : ℕ → Bool) where
  pub walk_grows : (c : Cmd) (d : ℕ) → Grows (walk u d c)
  walk_grows skip d st = grown_refl st.here.settings
  walk_grows (a ⨟ b) d st = grown_trans (walk_grows a d st) (walk_grows b d (walk u d a st))
  walk_grows (use_of h) d st = as_grows h.spot st (st.here.standing h.spot.value)
  walk_grows (set_of o h) d st = record { more = record { sort = o; spot = h.spot } ∷ []; eq = refl }
  walk_grows (stop w) d st = grown_refl st.here.settings
  walk_grows (branch a b) d st = branch_grows (walk u d a) (walk u d b) (walk_grows a d) (walk_grows b d) st
  walk_grows (loop c) d st = rounds_grows (leb (suc d) 5) (walk u (suc d) c) (walk_grows c (suc d)) st
  walk_grows (scope c) d st = record { more = []; eq = sym (scope_same u c d st).settings ∙ sym (append-nil st.here.settings) }

-- the steps keep the relation
pub record Sought (q : Search) (l : Looked) : Type 0 where
  pub found : l.found ≡ q.found
  pub scopes : All (slims q.scopes) l.rooms

step_holds : (x : ℕ) (c : Scope) (cs : List Scope) (q : Search) (r : Chamber) (rs : List Chamber) (l : Looked) → Shows (slim c) r
    → All (slims cs) rs → Sought q l
    → (z : Standing) → c.standing x ≡ z → Sought (search_step x c cs q z) (look_step x r rs l (standing_level z))
step_holds x c cs q r rs l h k o absent e = record { found = o.found; scopes = all_cons h o.scopes }
step_holds x c cs q r rs l h k o (maybe ss) e = record { found = refl; scopes = all_cons (shows_mark x (maybe ss) e h) k }
step_holds x c cs q r rs l h k o (definitely ss) e = record { found = refl; scopes = all_cons (shows_mark x (definitely ss) e h) k }

search_holds : (x : ℕ) (cs : List Scope) (rs : List Chamber) → All (slims cs) rs → Sought (search_out x cs) (look_out x rs)
search_holds x [] rs all_nil = record { found = refl; scopes = all_nil }
search_holds x (c ∷ cs) rs (all_cons {r = r} {rs = ts} h k) =
    subst (λ (v : Level). Sought (search_out x (c ∷ cs)) (look_step x r ts (look_out x ts) v)) (sym (h.level x))
    (step_holds x c cs (search_out x cs) r ts (look_out x ts) h k (search_holds x cs ts k) (c.standing x) refl)

out_holds : (s : Spot) (st : State) (m : House) (q : Search) (l : Looked) → Holds st m → Sought q l → (f : Found)
    → Holds (use_out s st q f) (use_away s m l f)
out_holds s st m q l h o nowhere = record {
  here = subst (λ (c : Scope). Shows c (unbinds_room (s ∷ []) (cannot_room s m.here))) (slim_both s st.here)
      (shows_unbinds (s ∷ []) (s ∷ []) refl (shows_cannot s h.here));
  above = o.scopes;
  out = h.out;
}
out_holds s st m q l h o surely = record {
  here = subst (λ (c : Scope). Shows c (cannot_room s m.here)) (slim_cannot s st.here)
      (shows_cannot s h.here);
  above = o.scopes;
  out = h.out;
}
out_holds s st m q l h o perhaps = record {
  here = subst (λ (c : Scope). Shows c (cannot_room s m.here)) (slim_cannot s st.here)
      (shows_cannot s h.here);
  above = o.scopes;
  out = ap (warn 6 s) h.out;
}

as_holds : (s : Spot) (st : State) (m : House) → Holds st m → (z : Standing) → st.here.standing s.value ≡ z
    → Holds (use_as s st z) (use_level s m (standing_level z))
as_holds s st m h absent e = let o = search_holds s.value st.above m.above h.above in let q =
    search_out s.value st.above in let l = look_out s.value m.above in
    subst (λ (f : Found). Holds (use_out s st q q.found) (use_away s m l f)) (sym o.found) (out_holds s st m q l h o q.found)
as_holds s st m h (maybe ss) e = record {
  here = shows_mark s.value (maybe ss) e h.here;
  above = h.above;
  out = ap (warn 6 s) h.out;
}
as_holds s st m h (definitely ss) e = record { here = shows_mark s.value (definitely ss) e h.here; above = h.above; out = h.out }

abbrev pub Follows : (State → State) → (House → House) → Type 0
Follows f g = (st : State) (m : House) → Holds st m → Holds (f st) (g m)

grown_longer : (st : State) (m : House) (two : State) (n : House) → Holds st m → Holds two n
    → Grown st.here.settings two.here.settings → Longer m.here.entries n.here.entries
grown_longer st m two n h k g = let p = once_grown g in
    longer m.here.entries n.here.entries p.more (k.here.settings ∙ p.eq
    ∙ ap (λ (l : List Setting). l ++ p.more) (sym h.here.settings))

branch_holds : (f g : State → State) (p q : House → House) → Follows f p → Follows g q → Grows f → Grows g
    → Follows (branch_of f g) (branch_house p q)
branch_holds f g p q hf hg gf gg st m h =
    let one = hf st m h in
    let mid : House = record { here = back_room m.here (p m).here; above = (p m).above; out = (p m).out } in
    let b : Holds (middle st (f st)) mid = record {
      here = shows_back (grown_longer st m (f st) (p m) h one (gf st)) h.here one.here;
      above = one.above;
      out = one.out;
    } in
    let two = hg (middle st (f st)) mid b in
    record {
      here = shows_join (grown_longer (f st) (p m) (g (middle st (f st))) (q mid) one two (gg (middle st (f st)))) one.here
          two.here;
      above = two.above;
      out = two.out;
    }

round_holds : (f : State → State) (p : House → House) → Follows f p → Grows f → Follows (round f) (round_house p)
round_holds f p hf gf st m h = let r = branch_holds f same_state p same_house hf (λ t n k. k) gf
    (λ t. grown_refl t.here.settings) st m h in
    record {
      here = subst (λ (a : Abort). Shows (slim (round f st).here) (stop_room (unloop a) (branch_house p same_house m).here))
          (sym r.here.abort)
          (shows_stop (unloop (branch_of f same_state st).here.abort) r.here);
      above = r.above;
      out = r.out;
    }

rounds_holds : (b : Bool) (f : State → State) (p : House → House) → Follows f p → Grows f → Follows (rounds b f) (rounds_house b p)
rounds_holds true f p hf gf st m h = round_holds f p hf gf (round f st) (round_house p m) (round_holds f p hf gf st m h)
rounds_holds false f p hf gf st m h = round_holds f p hf gf st m h

leave_holds : (u : ℕ → Bool) (st : State) (m : House) (cs : List Scope) (rs : List Chamber) → Holds st m → All (slims cs) rs
    → Holds (leave_to u st cs) (leave_house u m rs)
leave_holds u st m [] rs h all_nil = h
leave_holds u st m (c ∷ cs) rs h (all_cons {r = r} {rs = ts} k l) = record {
  here = subst (λ (b : Scope). Shows b (unbinds_room (passed_room m.here) r)) (slim_unbinds st.here c)
      (shows_unbinds (passed (slim st.here)) (passed_room m.here) (passed_same h.here) k);
  above = l;
  out = farewell_same h.here u false m.out ∙ farewell_slim st.here u false m.out ∙ ap (farewell u false st.here) h.out;
}

module _ (u : ℕ → Bool) where
  pub tour_holds : (c : Cmd) (d : ℕ) → Follows (walk u d c) (tour u d c)
  tour_holds skip d st m h = h
  tour_holds (a ⨟ b) d st m h = tour_holds b d (walk u d a st) (tour u d a m) (tour_holds a d st m h)
  tour_holds (use_of g) d st m h = subst (λ (v : Level). Holds (walk u d (use_of g) st) (use_level g.spot m v)) (sym (h.here.level g.spot.value))
      (as_holds g.spot st m h (st.here.standing g.spot.value) refl)
  tour_holds (set_of o g) d st m h = record {
    here = subst (λ (c : Scope). Shows c (set_room o g.spot m.here)) (slim_set o g.spot st.here)
        (shows_set o g.spot h.here);
    above = h.above;
    out = h.out;
  }
  tour_holds (stop w) d st m h = record { here = shows_stop (stop_abort w) h.here; above = h.above; out = h.out }
  tour_holds (branch a b) d st m h = branch_holds (walk u d a) (walk u d b) (tour u d a) (tour u d b) (tour_holds a d) (tour_holds b d)
      (walk_grows u a d) (walk_grows u b d) st m h
  tour_holds (loop c) d st m h = rounds_holds (leb (suc d) 5) (walk u (suc d) c) (tour u (suc d) c) (tour_holds c (suc d))
      (walk_grows u c (suc d)) st m h
  tour_holds (scope c) d st m h = let r = tour_holds c d (enter st) (enter_house m) (record {
    here = shows_fresh;
    above = all_cons h.here h.above;
    out = h.out;
  }) in
      leave_holds u (walk u d c (enter st)) (tour u d c (enter_house m)) (walk u d c (enter st)).above
      (tour u d c (enter_house m)).above r r.above

  undefined_same : (g : Option (ℕ → Bool)) (c : Scope) (r : Chamber) → Shows (slim c) r → (ws : List Warning)
      → undefined_room g r ws ≡ undefined g c ws
  undefined_same none c r h ws = refl
  undefined_same (some given) c r h ws = ap (λ (l : List Spot). warn_all 5 (λ s. not (given s.value)) l ws) (passed_same h)
      ∙ passed_warns c 5 (λ s. not (given s.value)) ws

  -- THE THEOREM: the warnings of the walk with marks are those of the rules, in order
  pub tour_names : (g : Option (ℕ → Bool)) (c : Cmd) → names_tour u g c ≡ names_of u g c
  tour_names g c =
      let st = walk u 0 c (record { here = fresh; above = []; out = [] }) in
      let m = tour u 0 c (record { here = empty_room; above = []; out = [] }) in
      let h = tour_holds c 0 (record { here = fresh; above = []; out = [] }) (record { here = empty_room; above = []; out = [] })
      (record { here = shows_fresh; above = all_nil; out = refl }) in
      undefined_same g st.here m.here h.here (farewell_room u true m.here m.out)
      ∙ ap (undefined g st.here) (farewell_same h.here u true m.out ∙ farewell_slim st.here u true m.out
      ∙ ap (farewell u true st.here) h.out)

  pub tour_tree : (is_fail : ℕ → Bool) (g : Option (ℕ → Bool)) (f : Forest) → names_tour u g (body is_fail f) ≡ names u is_fail g f
  tour_tree is_fail g f = tour_names g (body is_fail f)

-- of a file's bytes: what crate names has to give
pub tour_list : (t : List ℕ)
    → map (told (met_in t)) (names_tour (underscored (table_of t)) (globals_of t) (body (spells (table_of t) fail_name) (tree_of t))) ≡ names_list t
unfolding names_list
tour_list t = ap (map (told (met_in t))) (tour_tree (underscored (table_of t)) (spells (table_of t) fail_name) (globals_of t) (tree_of t))
