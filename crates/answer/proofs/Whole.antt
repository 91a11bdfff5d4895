-- The whole call of a pass: what each return shows. Assumes nothing.
use Rattle.std.specs.Prelude.{Ok, Err}
use Prim.Native.Nat.{ℕ, ◌*◌, ◌/◌, ◌≤◌, ◌<◌}
use native.Mathlib.Omega.{arith}
use native.Mathlib.Nat.{le-div_iff_mul-le, div-lt_iff_lt-mul}
use mathlib.Core.Path.{◌≡◌, refl, ap, ◌∙◌}
use mathlib.Core.List.{List, [], ◌∷◌, ◌++◌}
use lib.ListN.{length}
use Rattle.tree.specs.declared.Facts.{Facts}
use Rattle.tree.specs.declared.Refusal as tree
use Rattle.rules.specs.declared.Refusal.TheVariants.{Tree, AnswerRoom}
use Rattle.rules.specs.declared.Answer.{Answer}
use Rattle.rules.specs.Record.{Rec, width}
use Rattle.rules.specs.Joined.{no_tally, raise_all}
use Rattle.tree.specs.Judge.{judged}
use Rattle.tree.specs.Forest.{Forest, none, node, tree_of}
use Rattle.tree.specs.code.Shape.{count}
use Rattle.tree.proofs.Whole.{sound}
use Rattle.tree.proofs.Fits.{tree_count}
use Rattle.rules.specs.code.Marks.{nodes}
use Rattle.rules.specs.Calls.{Done, DoneWithWork, done, done_with_work}
use Rattle.rules.proofs.Answered.{done_unfit, done_short, done_listed, work_unfit, filled, answer_same}
use Rattle.answer.specs.declared.LentSheet.{LentSheet}
use Rattle.answer.specs.Page.{Page, writes, page, Added}
use Rattle.answer.specs.Answers.{Answers}
use Rattle.answer.proofs.Laws.{writes_tally, writes_count}
use Rattle.answer.proofs.Written.{written}

-- a part of no words that came back leaves the whole as it was
pub no_front : (e o : List ℕ) → length e ≡ 0 → e ++ o ≡ o
no_front [] o h = refl
no_front (x ∷ e) o h = absurd (omega arith)

-- a file that is refused by 1 to 9
pub unfit_done : (t : List ℕ) (why : tree.Refusal) (rs : List Rec) (o y : List ℕ) (a : Answer) → judged t ≡ Err why
    → a.outcome ≡ Err (Tree why) → a.tally ≡ no_tally
    → ◌≡◌ {A = Done} (record { answer = a; room = o }) (done rs t o y)
unfit_done t why rs o y a e p q = rw (done_unfit rs t o y e, answer_same a p q)

pub unfit_with_work : (t : List ℕ) (why : tree.Refusal) (rs : List Rec) (w o y : List ℕ) (a : Answer) → judged t ≡ Err why
    → a.outcome ≡ Err (Tree why) → a.tally ≡ no_tally
    → ◌≡◌ {A = DoneWithWork} (record { answer = a; room = o; work = w }) (done_with_work rs t w o y)
unfit_with_work t why rs w o y a e p q = rw (work_unfit rs t w o y e, answer_same a p q)

-- Of a valid file: c is the sheet of the walk that only counts, begun as s.
module _ (rs : List Rec) (few : length rs ≤ 18446744073709551615) (o y : List ℕ)
    (s c : LentSheet) (fresh : s.sheet.count ≡ 0) (walked : Added s c rs) where
  pub counted : c.sheet.count ≡ length rs
  counted =
      ap (λ (p : Page). p.count) walked.so
      ∙ writes_count (page s) rs (omega arith)
      ∙ omega arith

  pub short_done : (a : Answer) → length o / width < c.sheet.count → a.outcome ≡ Err (AnswerRoom c.sheet.count) → a.tally ≡ no_tally
      → Answers rs o y a o
  short_done a h p q =
      let k = counted in
      let l : length o < length rs * width = (div-lt_iff_lt-mul {k = width} {x = length o} {y = length rs} (omega arith)).0 (rw k at h) in
      record { answers = λ t f valid. rw (done_short rs t o y valid (omega arith), answer_same a (rw k at p) q) }

  pub listed_done : (a : Answer) (r d : LentSheet) → c.sheet.count ≤ length o / width → page r ≡ record { out = o; count = 0; tally = y }
      → Added r d rs → a.outcome ≡ Ok d.sheet.count → a.tally ≡ d.sheet.tally → Answers rs o y a d.out.now
  listed_done a r d h start w p q =
      let k = counted in
      let l : length rs * width ≤ length o = (le-div_iff_mul-le {k = width} {x = length rs} {y = length o} (omega arith)).0 (rw k at h) in
      let b = rw start at w.so in
      let n : d.sheet.count ≡ length rs = ap (λ (p : Page). p.count) b ∙ writes_count _ rs (omega arith) ∙ omega arith in
      let m : d.sheet.tally ≡ raise_all rs y = ap (λ (p : Page). p.tally) b ∙ writes_tally _ rs in
      let v : d.out.now ≡ filled rs o = ap (λ (p : Page). p.out) b ∙ written o y rs (omega arith) few in
      record { answers = λ t f valid. rw (done_listed rs t o y valid (omega arith), answer_same a (p ∙ ap Ok n) (q ∙ m), v) }

-- ---- a valid file has few nodes

nodes_count : (f : Forest) → nodes f ≡ count f
unfolding count
nodes_count none = refl
nodes_count (node h k s) = omega (arith, nodes_count k, nodes_count s)

pub few_nodes : (t : List ℕ) (f : Facts) → judged t ≡ Ok f → nodes (tree_of t) ≤ 1024
few_nodes t f v = omega (arith, nodes_count (tree_of t), tree_count t f v, (sound t f v).nodes, (sound t f v).few_nodes)
