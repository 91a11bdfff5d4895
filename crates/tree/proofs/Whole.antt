-- A file that is judged valid: its record of facts, and its tree. Assumes nothing.
use Rattle.std.specs.Prelude.{Ok, Err}
use Prim.Native.Nat.{ℕ, ◌+◌, ◌*◌, ◌≤◌, ◌<◌}
use native.Mathlib.Omega.{arith}
use mathlib.Core.Path.{◌≡◌, refl, sym, ap, ◌∙◌}
use mathlib.Core.List.{List}
use mathlib.Core.Bool.{Bool, true, false, ◌||◌}
use mathlib.Core.Logic.{◌⊎◌, inl, inr}
use lib.Dec.{leb, ltb, eqb}
use lib.ListN.{length}
use borrow.Author.Tests.{ltb-false, leb-true, eqb-true}
use Rattle.tree.specs.Bytes.{pick, version_of, node_count, value_count, global_count, size_at}
use Rattle.tree.specs.Search.{lowest}
use Rattle.tree.specs.Values.{offset}
use Rattle.tree.specs.code.Stages.{bad5, bad9, bad6, facts_at, staged, judged3, judged4, judged5, judged6, judged7, judged8, judged9}
use Rattle.tree.specs.Nodes.{too_deep}
use Rattle.tree.specs.Children.{root_ok}
use Rattle.tree.specs.code.Kids.{bad7, good7}
use Rattle.tree.specs.Judge.{refuse_at, marked, versioned, limits, facts_of, judged}
use Rattle.tree.specs.Table.{listed}
use Rattle.tree.specs.code.Part.{Part}
use Rattle.tree.specs.code.Sound.{Sound}
use Rattle.tree.specs.declared.Facts.{Facts}
use Rattle.tree.specs.declared.Refusal.{Refusal}
use Rattle.tree.specs.declared.Refusal.TheVariants.{Mark, Version, Counts, Sections, Value, Node, Children, Depth, Global}
use Rattle.tree.specs.Judge.{Judged}
use Rattle.tree.proofs.Search.{lowest_clear, not_so}
use Rattle.tree.proofs.Names.{and_left, and_right}
use Rattle.tree.proofs.Limits.{limits_facts}
use Rattle.tree.proofs.Staged.{facts_same, staged_same}
use Rattle.tree.proofs.Six.{six_sized, six_ends, six_nests}

-- what is not refused is kept
kept : (b : Bool) (x : Judged) (r : Refusal) (f : Facts) → pick b x (Err r) ≡ Ok f → (b ≡ true) × (x ≡ Ok f)
kept true x r f e = (refl, e)
kept false x r f e = let z : ◌≡◌ {A = ℕ} 0 1 = cc in absurd (omega arith)

passed : (why : ℕ → Refusal) (place n : ℕ) (x : Judged) (f : Facts) → refuse_at why place n x ≡ Ok f → (n ≤ place) × (x ≡ Ok f)
passed why place n x f e = go (ltb place n) refl e
  where
    go : (b : Bool) → ltb place n ≡ b → pick b (Err (why place)) x ≡ Ok f → (n ≤ place) × (x ≡ Ok f)
    go true q e = let z : ◌≡◌ {A = ℕ} 0 1 = cc in absurd (omega arith)
    go false q e = (ltb-false place n q, e)

same_facts : (a b : Facts) → ◌≡◌ {A = Judged} (Ok a) (Ok b) → b ≡ a
same_facts a b e = cc

given : (g : ℕ) (a b : Bool) → leb g 512 ≡ a → eqb g 65535 ≡ b → (a || b) ≡ true → (g ≤ 512) ⊎ (g ≡ 65535)
given g true b p q e = inl (leb-true g 512 p)
given g false true p q e = inr (eqb-true g 65535 q)
given g false false p q e = let z : ◌≡◌ {A = ℕ} 0 1 = cc in absurd (omega arith)

limits_given : (n nv g : ℕ) → limits n nv g ≡ true → (g ≤ 512) ⊎ (g ≡ 65535)
limits_given n nv g e = given g (leb g 512) (eqb g 65535) refl refl (and_right (leb nv 512) _ (and_right (leb n 1024) _ (and_right (leb 1 n) _ e)))

root_size : (t : List ℕ) (n : ℕ) → bad7 t n 0 ≡ false → size_at t 0 ≡ n
unfolding bad7 root_ok
root_size t n e = eqb-true _ _ (and_left (eqb (size_at t 0) n) _ (and_left (root_ok t n) (good7 t 0) (not_so _ e)))

-- the file behind the mark and the version
sound3 : (t : List ℕ) (f : Facts) → versioned t ≡ true → judged3 t (node_count t) (value_count t) (global_count t) ≡ Ok f → Sound t f
unfolding judged3 judged4 judged5 judged6 judged7 judged8 judged9 facts_at
sound3 t f known e =
    let n = node_count t in
    let nv = value_count t in
    let g = global_count t in
    let e3 = kept (limits n nv g) (judged4 t n nv g) Counts f e in
    let e4 = kept (eqb (offset t n nv + 2 * listed g) (length t)) (judged5 t n nv g) Sections f e3.1 in
    let e5 = passed Value (lowest nv (bad5 t n)) nv (judged6 t n nv g) f e4.1 in
    let e6 = passed Node (lowest n (bad6 t n nv)) n (judged7 t n nv g) f e5.1 in
    let e7 = passed Children (lowest n (bad7 t n)) n (judged8 t n nv g) f e6.1 in
    let e8 = passed Depth (lowest n (too_deep t)) n (judged9 t n nv g) f e7.1 in
    let e9 = passed Global (lowest (listed g) (bad9 t n nv)) (listed g) (Ok (facts_at t n nv g)) f e8.1 in
    let same = same_facts (facts_at t n nv g) f e9.1 in
    let few = limits_facts n nv g e3.0 in
    let seven : (i : ℕ) → i < n → bad7 t n i ≡ false = λ i h. lowest_clear n (bad7 t n) i (omega arith) in
    record {
      facts = same ∙ sym (facts_same t);
      version = ap (λ (x : Facts). x.version) same;
      nodes = ap (λ (x : Facts). x.nodes) same;
      values = ap (λ (x : Facts). x.values) same;
      names = ap (λ (x : Facts). x.names) same;
      globals = ap (λ (x : Facts). x.globals) same;
      rest = ap (λ (x : Facts). x.rest) same;
      known_version = known;
      some_nodes = few.3;
      few_nodes = few.0;
      few_values = few.1;
      few_globals = limits_given n nv g e3.0;
      few_listed = few.2;
      filled = eqb-true _ _ e4.0;
      none5 = e5.0;
      none6 = e6.0;
      none7 = seven;
      none8 = λ i h. lowest_clear n (too_deep t) i (omega arith);
      none9 = λ i h. lowest_clear (listed g) (bad9 t n nv) i (omega arith);
      root = root_size t n (seven 0 few.3);
    }

pub sound : (t : List ℕ) (f : Facts) → judged t ≡ Ok f → Sound t f
unfolding staged node_count value_count global_count
sound t f e =
    let e1 = kept (marked t) _ Mark f (sym (staged_same t) ∙ e) in
    let e2 = kept (versioned t) _ Version f e1.1 in
    sound3 t f e2.0 e2.1

-- 02, §9: a valid file is of version 1 or of version 2
pub valid_version : (t : List ℕ) (f : Facts) → judged t ≡ Ok f → (f.version ≡ 1) ⊎ (f.version ≡ 2)
valid_version t f e = let s = sound t f e in go f.version s.version (eqb (version_of t) 1) (eqb (version_of t) 2) refl refl s.known_version
  where
    go : (v : ℕ) → v ≡ version_of t → (a b : Bool) → eqb (version_of t) 1 ≡ a → eqb (version_of t) 2 ≡ b → (a || b) ≡ true → (v ≡ 1) ⊎ (v ≡ 2)
    go v h true b p q r = inl (h ∙ eqb-true _ _ p)
    go v h false true p q r = inr (h ∙ eqb-true _ _ q)
    go v h false false p q r = let z : ◌≡◌ {A = ℕ} 0 1 = cc in absurd (omega arith)

pub valid_facts : (t : List ℕ) (f : Facts) → judged t ≡ Ok f → f ≡ facts_of t
valid_facts t f e = (sound t f e).facts

-- all nodes are one part
pub whole_part : (t : List ℕ) (f : Facts) → Sound t f → Part t 0 (node_count t)
whole_part t f s =
    record {
      few = s.few_nodes;
      some = λ j a b. six_sized t (node_count t) (value_count t) s.none6 j b;
      ends = λ j a b. six_ends t (node_count t) (value_count t) s.none6 j b;
      nest = λ j k a b l h. six_nests t (node_count t) (value_count t) s.none6 s.root j k l h (omega (arith, six_ends t (node_count t) (value_count t) s.none6 j b));
    }

pub whole : (t : List ℕ) (f : Facts) → judged t ≡ Ok f → Part t 0 f.nodes
whole t f e = let s = sound t f e in rw s.nodes (whole_part t f s)
