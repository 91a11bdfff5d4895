-- The judgement's stages, by what each check answers. Assumes nothing.
use Rattle.std.specs.Prelude.{Ok, Err}
use Prim.Native.Nat.{ℕ, ◌+◌, ◌*◌, ◌≤◌}
use mathlib.Core.Path.{◌≡◌, ◌∙◌}
use mathlib.Core.List.{List}
use mathlib.Core.Bool.{Bool}
use lib.ListN.{length}
use borrow.Author.Tests.{lt-ltb, le-ltb, eq-eqb, ne_eqb}
use Rattle.tree.specs.Search.{lowest}
use Rattle.tree.specs.Values.{offset}
use Rattle.tree.specs.Table.{listed}
use Rattle.tree.specs.Nodes.{too_deep}
use Rattle.tree.specs.Judge.{Judged, refuse_at}
use Rattle.tree.specs.declared.Refusal.{Refusal}
use Rattle.tree.specs.declared.Refusal.TheVariants.{Sections, Value, Node, Children, Depth, Global}
use Rattle.tree.specs.code.Kids.{bad7}
use Rattle.tree.specs.code.Stages.{Lowest, bad5, bad6, bad9, None5, None6, facts_at, judged4, judged5, judged6, judged7, judged8, judged9}

refused : (why : ℕ → Refusal) (n : ℕ) (f : ℕ → Bool) (e : Refusal) (rest : Judged) → Lowest why n f e → ◌≡◌ {A = Judged} (Err e) (refuse_at why (lowest n f) n rest)
refused why n f e rest h = rw (lt-ltb (lowest n f) n h.below, h.is)

passed : (why : ℕ → Refusal) (n : ℕ) (f : ℕ → Bool) (rest : Judged) → n ≤ lowest n f → rest ≡ refuse_at why (lowest n f) n rest
passed why n f rest h = rw (le-ltb (lowest n f) n h)

module _ (t : List ℕ) (n nv g : ℕ) where
  pub sections_wrong : (offset t n nv + 2 * listed g ≡ length t → ⊥) → ◌≡◌ {A = Judged} (Err Sections) (judged4 t n nv g)
  unfolding judged4
  sections_wrong h = rw (ne_eqb _ _ h)

  pub value_wrong : (e : Refusal) → offset t n nv + 2 * listed g ≡ length t → Lowest Value nv (bad5 t n) e → ◌≡◌ {A = Judged} (Err e) (judged4 t n nv g)
  unfolding judged4 judged5
  value_wrong e q h = rw (eq-eqb _ _ q) (refused Value nv (bad5 t n) e (judged6 t n nv g) h)

  pub values_right : offset t n nv + 2 * listed g ≡ length t → None5 t n nv → judged6 t n nv g ≡ judged4 t n nv g
  unfolding judged4 judged5
  values_right q h = rw (eq-eqb _ _ q) (passed Value nv (bad5 t n) (judged6 t n nv g) h)

  pub node_wrong : (e : Refusal) → Lowest Node n (bad6 t n nv) e → ◌≡◌ {A = Judged} (Err e) (judged6 t n nv g)
  unfolding judged6
  node_wrong e h = refused Node n (bad6 t n nv) e (judged7 t n nv g) h

  module _ (six : None6 t n nv) where
    after_six : judged7 t n nv g ≡ judged6 t n nv g
    unfolding judged6
    after_six = passed Node n (bad6 t n nv) (judged7 t n nv g) six

    pub children_wrong : (e : Refusal) → Lowest Children n (bad7 t n) e → ◌≡◌ {A = Judged} (Err e) (judged6 t n nv g)
    unfolding judged7
    children_wrong e h = refused Children n (bad7 t n) e (judged8 t n nv g) h ∙ after_six

    module _ (seven : n ≤ lowest n (bad7 t n)) where
      after_seven : judged8 t n nv g ≡ judged6 t n nv g
      unfolding judged7
      after_seven = passed Children n (bad7 t n) (judged8 t n nv g) seven ∙ after_six

      pub depth_wrong : (e : Refusal) → Lowest Depth n (too_deep t) e → ◌≡◌ {A = Judged} (Err e) (judged6 t n nv g)
      unfolding judged8
      depth_wrong e h = refused Depth n (too_deep t) e (judged9 t n nv g) h ∙ after_seven

      module _ (eight : n ≤ lowest n (too_deep t)) where
        after_eight : judged9 t n nv g ≡ judged6 t n nv g
        unfolding judged8
        after_eight = passed Depth n (too_deep t) (judged9 t n nv g) eight ∙ after_seven

        pub global_wrong : (e : Refusal) → Lowest Global (listed g) (bad9 t n nv) e → ◌≡◌ {A = Judged} (Err e) (judged6 t n nv g)
        unfolding judged9
        global_wrong e h = refused Global (listed g) (bad9 t n nv) e (Ok (facts_at t n nv g)) h ∙ after_eight

        pub all_right : listed g ≤ lowest (listed g) (bad9 t n nv) → ◌≡◌ {A = Judged} (Ok (facts_at t n nv g)) (judged6 t n nv g)
        unfolding judged9
        all_right h = passed Global (listed g) (bad9 t n nv) (Ok (facts_at t n nv g)) h ∙ after_eight
