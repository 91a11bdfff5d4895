-- Records one after the other in lent words: for the passes and the joined call.
use Prim.Native.Nat.{ℕ, ◌+◌, ◌*◌}
use native.Mathlib.Omega.{arith}
use mathlib.Core.Path.{◌≡◌, refl, sym, ap, ◌∙◌}
use mathlib.Core.List.{List, [], ◌∷◌, ◌++◌, append_assoc}
use lib.ListN.{length, drop, length-append}
use lib.Seq.{drop-drop}
use Rattle.rules.specs.Record.{Rec, width, words, all_words}

pub words_append : (rs ss : List Rec) → all_words (rs ++ ss) ≡ all_words rs ++ all_words ss
words_append [] ss = refl
words_append (r ∷ rs) ss = ap (λ (l : List ℕ). words r ++ l) (words_append rs ss)

pub length_words : (rs : List Rec) → length (all_words rs) ≡ width * length rs
length_words [] = refl
length_words (r ∷ rs) = let p : length (all_words rs) ≡ width * length rs = length_words rs in omega arith

-- the answer room after two lists: the second list's, in the part after the first's
pub room_two : (rs ss : List Rec) (room : List ℕ)
    → all_words (rs ++ ss) ++ drop (width * length (rs ++ ss)) room
    ≡ all_words rs ++ (all_words ss ++ drop (width * length ss) (drop (width * length rs) room))
room_two rs ss room =
    let n : length (rs ++ ss) ≡ length rs + length ss = length-append rs ss in
    let e : width * length (rs ++ ss) ≡ width * length rs + width * length ss = omega arith in
    ap (λ (l : List ℕ). l ++ drop (width * length (rs ++ ss)) room) (words_append rs ss)
    ∙ append_assoc (all_words rs) (all_words ss) (drop (width * length (rs ++ ss)) room)
    ∙ ap (λ (k : ℕ). all_words rs ++ (all_words ss ++ drop k room)) e
    ∙ ap (λ (l : List ℕ). all_words rs ++ (all_words ss ++ l)) (sym (drop-drop (width * length ss) (width * length rs) room))
