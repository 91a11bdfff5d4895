-- What each step of the walk shows. Assumes nothing.
use Prim.Native.Nat.{ℕ, ◌+◌, ◌≤◌, ◌<◌}
use native.Mathlib.Omega.{arith}
use native.Mathlib.Numerals.{add-one}
use mathlib.Core.Path.{◌≡◌, refl, sym, ap, ◌∙◌}
use mathlib.Core.Bool.{Bool, true, false}
use mathlib.Core.List.{List, [], ◌++◌, map}
use lib.Dec.{eqb}
use lib.ListN.{length, get_or, drop}
use lib.Seq.{drop-cons}
use Rattle.std.proofs.lemmas.List.{drop_all}
use borrow.Author.Tests.{lt-ltb}
use Rattle.tree.specs.Bytes.{kind_at, role_at, size_at}
use Rattle.tree.specs.Forest.{Head, node_head, forest_of}
use Rattle.tree.specs.code.Part.{Part, Subtree}
use Rattle.tree.proofs.Laws.{sized, first, later, forest_none, forest_node}
use Rattle.meeting.specs.Asked.{Ask, asked_as, wanted, after, row, below, run, step, at}
use Rattle.meeting.specs.Meant.{number, meant}
use Rattle.meeting.specs.declared.walk.Ask.{Ask as Asking}
use Rattle.meeting.specs.declared.walk.Ask.TheVariants.{Itself}
use Rattle.meeting.proofs.Asks.{below_is}
use Rattle.meeting.specs.declared.walk.Walk.{Walk}
use Rattle.meeting.specs.Walked.{Walked}
use Rattle.meeting.specs.Words.{meet_words, meets}
use Rattle.meeting.proofs.Siblings.{siblings, no_siblings}
use Rattle.meeting.proofs.Steps.{meets_append}

-- a node of a part, and what is below it
pub whole_at : {t : List ℕ} {i e : ℕ} → Part t i e → i < e → Subtree t i
whole_at p lt = record { part = first p lt; some = sized p lt }

pub under : {t : List ℕ} {c : ℕ} → Subtree t c → Part t (c + 1) (c + size_at t c)
under s = later s.part (omega arith)

pub few : {t : List ℕ} {c : ℕ} → Subtree t c → c < 1024
few s = omega (arith, s.part.few, s.some)

-- from the walk w on the way, v: the nodes all were to be met, and these are left
pub record Walking (w v : Walk) (all left : List Head) : Type 0 where
  pub file : v.t.now ≡ w.t.now
  pub places : v.places ≡ w.places
  pub reference : v.w.ghost_name ≡ w.w.ghost_name
  pub words : meets w.t.now w.places w.w.now all ≡ meets w.t.now w.places v.w.now left

pub walk_starts : (w : Walk) (all : List Head) → Walking w w all all
walk_starts w all = record { file = refl; places = refl; reference = refl; words = refl }

pub walk_goes : {w v : Walk} (u : Walk) {all left : List Head} (hs : List ℕ → List Head) (rest : List Head) → Walking w v all left → left ≡ hs w.t.now ++ rest
    → Walked v u (hs v.t.now) → Walking w u all rest
walk_goes {w} {v} u hs rest g e s =
    record {
      file = s.file ∙ g.file;
      places = s.places ∙ g.places;
      reference = s.reference ∙ g.reference;
      words =
          let x : u.w.now ≡ meets w.t.now w.places v.w.now (hs w.t.now) = rw (← g.file, ← g.places) s.words in
          g.words ∙ ap (meets w.t.now w.places v.w.now) e ∙ meets_append w.t.now w.places (hs w.t.now) rest v.w.now
          ∙ ap (λ (y : List ℕ). meets w.t.now w.places y rest) (sym x);
    }

pub walk_ends : {w v : Walk} {all left : List Head} → Walking w v all left → left ≡ [] → Walked w v all
unfolding meets
walk_ends {w} {v} g e =
    record { file = g.file; places = g.places; reference = g.reference; words = sym (g.words ∙ ap (meets w.t.now w.places v.w.now) e) }

pub walk_none : (w : Walk) {all : List Head} → all ≡ [] → Walked w w all
walk_none w e = walk_ends (walk_starts w _) e

pub walk_same : {w v : Walk} {all hs : List Head} → all ≡ hs → Walked w v hs → Walked w v all
walk_same e s = rw e s

-- ---- one ask of a plan

pub below_self : (t : List ℕ) (n : ℕ) (w : List ℕ) (a : Asking) (c : ℕ) {v : List ℕ} → a ≡ Itself → c < 1024 → v ≡ meet_words t n w c
    → v ≡ meets t n w (at (below (number a)) t c)
unfolding below meets node_head
below_self t n w a c e l f = f ∙ rw (e, lt-ltb c 65535 (omega arith))

pub below_other : (t : List ℕ) (a : Asking) (c : ℕ) {s : ℕ} → (a ≡ Itself → ⊥) → s ≡ size_at t c
    → at (below (number a)) t c ≡ asked_as (meant a) (forest_of t (c + 1) (c + s))
below_other t a c x e = rw e (below_is a _ _ x)

-- ---- a plan

module _ (t : List ℕ) (ps : List Asking) (c : ℕ) where
  pub plan_next : (k : ℕ) (a : Asking) → k < length ps
      → at (run (map number (drop k ps))) t c ≡ at (below (number (get_or ps k a))) t c ++ at (run (map number (drop (k + 1) ps))) t c
  unfolding run
  plan_next k a l = rw (drop-cons ps k a l, add-one k)

  pub plan_done : (k : ℕ) → length ps ≤ k → at (run (map number (drop k ps))) t c ≡ []
  unfolding run
  plan_done k l = rw (drop_all k ps l)

-- ---- a node, where it is asked for

module _ (t : List ℕ) (q : Ask) (c : ℕ) where
  pub step_wanted : (ps : List ℕ) {b : Bool} {role kind : ℕ} → role ≡ role_at t c → b ≡ wanted q role → b ≡ true → kind ≡ kind_at t c
      → ps ≡ row q kind → at (step q) t c ≡ at (run ps) t c
  unfolding step node_head
  step_wanted ps e f g h p =
      let s : wanted q (role_at t c) ≡ true = rw e at (sym f ∙ g) in
      rw (p, h, s)

  pub step_unwanted : {b : Bool} {role : ℕ} → role ≡ role_at t c → b ≡ wanted q role → b ≡ false → at (step q) t c ≡ []
  unfolding step node_head
  step_unwanted e f g =
      let s : wanted q (role_at t c) ≡ false = rw e at (sym f ∙ g) in
      rw s

-- ---- siblings

module _ (t : List ℕ) (q : Ask) where
  pub visit_next : (q' : Ask) {c e role s : ℕ} → Part t c e → c < e → role ≡ role_at t c → q' ≡ after q (eqb 0 role) → s ≡ size_at t c
      → asked_as q (forest_of t c e) ≡ at (step q) t c ++ asked_as q' (forest_of t (c + s) e)
  unfolding node_head
  visit_next q' {c} {e} p lt g h z =
      ap (asked_as q) (forest_node p lt)
      ∙ siblings q (node_head t c) (forest_of t (c + 1) (c + size_at t c)) (forest_of t (c + size_at t c) e)
      ∙ rw (z, h, g)

  pub visit_done : (c e : ℕ) → e ≤ c → asked_as q (forest_of t c e) ≡ []
  visit_done c e h = rw (forest_none t c e h) (no_siblings q)
