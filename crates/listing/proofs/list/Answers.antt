-- The text is what stands on the page. Assumes nothing.
use Prim.Native.Nat.{ℕ, ◌+◌, ◌*◌, ◌≤◌}
use native.Mathlib.Omega.{arith}
use mathlib.Core.Path.{◌≡◌}
use mathlib.Core.Bool.{false}
use mathlib.Core.List.{List}
use lib.ListN.{length, replicate, length-replicate}
use Rattle.tree.specs.declared.Mode.TheVariants.{Ordinary}
use Rattle.rules.specs.Record.{width}
use Rattle.rules.specs.Outcome.{work_words}
use Rattle.text.proofs.Promised.{text_handed}
use borrow.Author.Rules.{rules}
use Rattle.listing.proofs.list.Goals as goal

enough : (room page : List ℕ) → length room ≡ width * 2048 → length page ≡ 11 * (width * 2048) + 400 → 11 * length room + 400 ≤ length page
enough room page r p = omega arith

small : (room : List ℕ) → length room ≡ width * 2048 → 11 * length room + 400 ≤ 18446744073709551614
small room r = omega arith

pub hand-requires : goal.hand-requires
hand-requires g c =
    let made = c.text-n in
    let room = length-replicate {A = ℕ} (width * 2048) 0 in
    let page = length-replicate {A = ℕ} (11 * (width * 2048) + 400) 0 in
    text_handed false Ordinary c.args.t.now (replicate work_words 0) (replicate (width * 2048) 0) (replicate (11 * (width * 2048) + 400) 0)
    made.result made.new.out made.new.work made.new.answer made.ensures.0 made.ensures.1
    (search rules) (search rules) (enough (replicate (width * 2048) 0) (replicate (11 * (width * 2048) + 400) 0) room page) (small (replicate (width * 2048) 0) room)
