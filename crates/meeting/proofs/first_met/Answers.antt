-- `first_met` meets its contract. Assumes nothing.
use Prim.Native.Nat.{ℕ}
use mathlib.Core.Path.{◌≡◌, ap, ◌∙◌}
use mathlib.Core.List.{List}
use Rattle.std.proofs.Common.{rules}
use Rattle.tree.specs.Forest.{forest_of}
use Rattle.meeting.specs.Asked.{asked, ask_of}
use Rattle.meeting.specs.Words.{linked, meets, first_words}
use Rattle.meeting.proofs.first_met.Goals as goal

pub returns : goal.returns
unfolding first_words asked ask_of
returns c =
    let h : c.visit.new.self.w.now ≡ first_words c.args.t.now c.args.nodes c.args.n c.args.w.now =
    c.visit.ensures.words ∙ ap (λ (v : List ℕ). meets c.args.t.now c.args.n v (asked 0 (forest_of c.args.t.now 0 c.args.nodes))) (c.linked.ensures ∙ ap (λ (v : List ℕ). linked c.args.t.now v c.args.n) c.emptied.ensures) in
    search rules
