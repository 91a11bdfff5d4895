-- No byte of a string's text is a control character. Assumes nothing.
use Prim.Native.Nat.{ℕ}
use mathlib.Core.Bool.{Bool, true, ◌&&◌, ◌||◌, not}
use mathlib.Core.List.{List, [], ◌∷◌, ◌++◌}
use lib.Dec.{T, eqb, leb, le→leb, nleb→lt}
use Rattle.base.proofs.Bools.{and_left, and_right, both, nor_left}
use Rattle.json_text.specs.Escape.{must, hex, six, escaped}
use Rattle.page.specs.Digits.{decimal}
use Rattle.json_text.specs.Kept.{clear, Escaped, end, kept, marked, replaced}
use Rattle.json_text.proofs.Plain.{plain, all_plain, plain_low, decimal_plain, hex_plain}
use Rattle.json_text.proofs.Kept.{escaped_so}

-- no byte of these is one of "the control characters (U+0000 through U+001F)"
abbrev pub shows : List ℕ → Bool
shows [] = true
shows (b ∷ s) = leb 0x20 b && shows s

shows_append : (a s : List ℕ) → T (shows a) → T (shows s) → T (shows (a ++ s))
shows_append [] s p q = q
shows_append (b ∷ a) s p q =
    both (leb 0x20 b) (shows (a ++ s)) (and_left (leb 0x20 b) (shows a) p) (shows_append a s (and_right (leb 0x20 b) (shows a) p) q)

plain_shows : (s : List ℕ) → T (all_plain s) → T (shows s)
plain_shows [] p = tt
plain_shows (b ∷ s) p =
    both (leb 0x20 b) (shows s) (plain_low b (and_left (plain b) (all_plain s) p)) (plain_shows s (and_right (plain b) (all_plain s) p))

clear_shows : (s : List ℕ) → T (clear s) → T (shows s)
clear_shows [] t = tt
clear_shows (b ∷ s) t =
    both (leb 0x20 b) (shows s)
    (le→leb 0x20 b (nleb→lt b 0x1F (nor_left (leb b 0x1F) (eqb b 0x22 || eqb b 0x5C) (and_left (not (must b)) (clear s) t))))
    (clear_shows s (and_right (not (must b)) (clear s) t))

all_show : {s e : List ℕ} → Escaped s e → T (shows e)
all_show end = tt
all_show (kept {c = c} {e = e} ch t h) = shows_append c e (clear_shows c t) (all_show h)
all_show (marked {b = b} {e = e} t h) = shows_append (six b) e (plain_shows (hex b) (hex_plain b)) (all_show h)
all_show (replaced {e = e} out h) = all_show h

pub escaped_shows : (s : List ℕ) → T (shows (escaped s))
escaped_shows s = all_show (escaped_so s)

pub decimal_shows : (n : ℕ) → T (shows (decimal n))
decimal_shows n = plain_shows (decimal n) (decimal_plain n)
