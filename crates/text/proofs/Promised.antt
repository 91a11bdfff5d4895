-- What a program hands to its write call. Assumes nothing.
use Rattle.std.specs.Prelude.{Ok}
use Prim.Native.Nat.{ℕ, ◌+◌, ◌*◌, ◌≤◌}
use native.Mathlib.Omega.{arith}
use mathlib.Core.Path.{◌≡◌, sym, ap, ap₂, ◌∙◌}
use mathlib.Core.Bool.{Bool, false}
use mathlib.Core.List.{List, [], ◌∷◌, ◌++◌, append_assoc, append-nil}
use lib.ListN.{length, take}
use Rattle.tree.specs.Judge.{judged}
use Rattle.tree.specs.declared.Facts.{Facts}
use Rattle.tree.specs.declared.Mode.{Mode}
use Rattle.rules.specs.Record.{width}
use Rattle.rules.specs.Joined.{lint_list}
use Rattle.rules.specs.Outcome.{work_words, the_file, work_room, answer_room, refusal}
use Rattle.rules.proofs.Answered.{fit, work_enough, room_enough, all_passed}
use Rattle.page.specs.Page.{page, Wrote}
use Rattle.page.proofs.Pages.{then, retold, stands, as_wrote}
use Rattle.text.specs.Text.{listing, counts, told, text_of, Done, text_call}
use Rattle.text.proofs.text.Reads as contract

-- What the contract of text says, as the checker reads it (Post: of the arguments a, the result r and the lent room s afterwards)
pub promised : (κs : _) (a : _) (r : _) (s : _) → contract.Post κs a r s
    → (record { count = r; page = s.1.1.1.1.1.0.now; work = s.1.1.0.now; room = s.1.1.1.0.now }
    ≡ text_call a.1.1.1.1.0 a.1.0 a.0.now a.1.1.0.now a.1.1.1.0.now a.1.1.1.1.1.0.now)
    × (r ≤ 11 * length a.1.1.1.0.now + 400)
promised κs a r s p = p

-- the text goes by how long the rooms are, not by what they hold
text_lengths : (asked : Bool) (mode : Mode) (t work work' room room' : List ℕ) → length work' ≡ length work → length room' ≡ length room
    → text_of asked mode t work' room' ≡ text_of asked mode t work room
unfolding text_of
text_lengths asked mode t work work' room room' w r =
    let rs = lint_list mode t in
    ap₂ (λ (a b : ℕ). told asked (refusal (the_file (judged t) ∷ work_room a ∷ answer_room (length rs) b ∷ [])) rs) w r

module _ (asked : Bool) (mode : Mode) (t work room out : List ℕ) (r : ℕ) (out' work' room' : List ℕ)
    (call : record { count = r; page = out'; work = work'; room = room' } ≡ text_call asked mode t work room out)
    (most : r ≤ 11 * length room + 400) where
  -- the text is what was written
  pub text_wrote : Wrote out 0 out' r (11 * length room + 400) (λ rest. text_of asked mode t work room ++ rest)
  unfolding text_call
  text_wrote = as_wrote (text_of asked mode t work room) (ap (λ (d : Done). page d.page d.count) call) most

  -- lent eleven bytes a word of answer room and 400 more, the call leaves its text whole: the first r bytes, which a program writes, are it
  pub text_whole : 11 * length room + 400 ≤ length out → 11 * length room + 400 ≤ 18446744073709551614
      → (r ≡ length (text_of asked mode t work room)) × (take r out' ≡ text_of asked mode t work room)
  text_whole h m = stands (text_of asked mode t work room) text_wrote h m

  -- the same, told of the rooms as they are afterwards, with a line of the program's own after the text
  module _ (w : length work' ≡ length work) (o : length room' ≡ length room) where
    pub text_handed : 11 * length room + 400 ≤ length out → 11 * length room + 400 ≤ 18446744073709551614
        → take r out' ≡ text_of asked mode t work' room'
    text_handed h m = (text_whole h m).1 ∙ sym (text_lengths asked mode t work work' room room' w o)

    pub text_ended : (line : List ℕ) {out'' : List ℕ} {r' k : ℕ} → Wrote out' r out'' r' k (λ rest. line ++ rest)
        → 11 * length room + 400 + k ≤ length out → 11 * length room + 400 + k ≤ 18446744073709551614
        → take r' out'' ≡ text_of asked mode t work' room' ++ line
    text_ended line {k = k} p h m =
        let s = text_of asked mode t work room in
        (stands (s ++ line)
        (retold (11 * length room + 400 + k) (λ rest. (s ++ line) ++ rest) (then text_wrote p) (omega arith) (λ rest. sym (append_assoc s line rest)))
        h m).1
        ∙ ap (λ (x : List ℕ). x ++ line) (sym (text_lengths asked mode t work work' room room' w o))

-- "It prints each record's .. numbers, then total and the count", of the list that the rules give
pub text_lists : (mode : Mode) (t work room : List ℕ) (f : Facts) → judged t ≡ Ok f → work_words ≤ length work
    → width * length (lint_list mode t) ≤ length room → text_of false mode t work room ≡ listing (lint_list mode t)
unfolding text_of told counts
text_lists mode t work room f v w h =
    rw (fit _ v ∙ work_enough _ (length work) w ∙ (room_enough _ (length (lint_list mode t)) (length room) h ∙ all_passed)) (append-nil (listing (lint_list mode t)))
