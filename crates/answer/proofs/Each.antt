-- The walk over all nodes, each before its children. Assumes nothing.
use Prim.Native.Nat.{ℕ, ◌+◌, ◌≤◌, ◌<◌}
use mathlib.Core.Path.{◌≡◌, refl, sym}
use mathlib.Core.List.{List, [], ◌++◌, append_assoc}
use Rattle.tree.specs.Bytes.{size_at}
use Rattle.tree.specs.Forest.{Head, Forest, node, node_head, forest_of}
use Rattle.tree.specs.code.Part.{Part}
use Rattle.rules.specs.Record.{Rec}
use Rattle.rules.specs.Visit.{each}
use Rattle.answer.proofs.Flat.{past, next}

each_cons : (f : Head → Forest → List Rec) (h : Head) (k s : Forest) → each f (node h k s) ≡ (f h k ++ each f k) ++ each f s
each_cons f h k s = sym (append_assoc (f h k) (each f k) (each f s))

pub each_next : (f : Head → Forest → List Rec) {t : List ℕ} {i n : ℕ} → Part t i n → i < n
    → each f (forest_of t i n) ≡ f (node_head t i) (forest_of t (i + 1) (i + size_at t i)) ++ each f (forest_of t (i + 1) n)
each_next f p lt = next (each f) (λ h k. f h k ++ each f k) refl (each_cons f) f (λ h k. refl) p lt

pub each_past : (f : Head → Forest → List Rec) (t : List ℕ) (i n : ℕ) → n ≤ i → each f (forest_of t i n) ≡ []
each_past f t i n h = past (each f) (λ h k. f h k ++ each f k) refl (each_cons f) t i n h
