-- The words of messages stand for themselves in a string's text, and a number that is no code, reason or kind has none. Assumes nothing.
use Prim.Native.Nat.{ℕ, ◌<◌}
use native.Mathlib.Omega.{arith}
use Prim.Native.String.{String}
use mathlib.Core.Path.{◌≡◌, refl, ap}
use mathlib.Core.Bool.{Bool, true, false, cond, ◌&&◌, not}
use mathlib.Core.List.{List, [], ◌∷◌}
use lib.Dec.{T, eqb, leb, leb→le}
use borrow.Author.Tests.{ne_eqb}
use Rattle.tree.specs.Values.{Value}
use Rattle.rules.specs.Visit.{look}
use Rattle.rules.specs.Record.{Rec, Span}
use Rattle.base.specs.Ascii.{ascii}
use Rattle.rules.specs.Codes.{disabled}
use Rattle.base.proofs.Bools.{and_left, and_right, both}
use Rattle.rules.proofs.Look.{all_so, look_so, unlisted, look_none}
use Rattle.json_text.specs.Escape.{escaped, hexes}
use mathlib.Core.Option.{Option, none, some}
use Rattle.page.specs.Digits.{decimal}
use Rattle.json_text.proofs.Plain.{all_plain, plain_append, plain_same, decimal_plain, hexes_plain}
use Rattle.codes.specs.Named.{severity_of}
use Rattle.codes.specs.declared.EvalSeverity.TheVariants.{Disabled, Warning}
use Rattle.sarif_log.specs.Words.{phrases, reasons, kinds, seconds, thirds, reason, phrase, phrase_of, kind_word, shown, after_phrase, message_text}
use Rattle.sarif_log.specs.Log.{level, other, related}
use Rattle.rules.specs.Joined.{codes}

-- ---- numbers that stand in no row

above : (c m : ℕ) → m < c → (es : List (ℕ × String)) → T (all_so (λ n s. leb n m) es) → T (unlisted c es)
above c m h [] t = tt
above c m h (e ∷ es) t =
    let l = leb→le e.0 m (and_left (leb e.0 m) (all_so (λ n s. leb n m) es) t) in
    let z : eqb c e.0 ≡ false = ne_eqb c e.0 (λ q. omega arith) in
    both (not (eqb c e.0)) (unlisted c es) (rw z tt) (above c m h es (and_right (leb e.0 m) (all_so (λ n s. leb n m) es) t))

pub no_reason : (c n : ℕ) → (c ≡ 16 → ⊥) → reason c n ≡ []
unfolding reason
no_reason c n d = rw (ne_eqb c 16 d)

pub no_such_reason : (n : ℕ) → 2 < n → reason 16 n ≡ []
unfolding reason
no_such_reason n h = ap ascii (look_none n reasons "" (above n 2 h reasons tt))

pub no_phrase : (c n : ℕ) → codes < c → phrase c n ≡ []
unfolding phrase
no_phrase c n h = rw (look_none c phrases "" (above c codes h phrases tt)) (no_reason c n (λ e. omega arith))

pub no_kind : (k : ℕ) → 4 < k → kind_word k ≡ []
unfolding kind_word
no_kind k h = ap ascii (look_none k kinds "" (above k 4 h kinds tt))

-- ---- what stands for itself

-- what holds of no words and of each row's holds of a reason
pub reason_so : (q : List ℕ → Bool) → T (q []) → T (all_so (λ n s. q (ascii s)) reasons) → (c n : ℕ) → T (q (reason c n))
unfolding reason
reason_so q z t c n = go (eqb c 16)
  where
    go : (b : Bool) → T (q (cond b (ascii (look n reasons "")) []))
    go true = look_so (λ n s. q (ascii s)) n reasons "" t z
    go false = z

pub phrase_plain : (c n : ℕ) → T (all_plain (phrase c n))
unfolding phrase
phrase_plain c n =
    plain_append (ascii (look c phrases "")) (reason c n) (look_so (λ n s. all_plain (ascii s)) c phrases "" tt tt) (reason_so all_plain tt tt c n)

kind_plain : (k : ℕ) → T (all_plain (kind_word k))
unfolding kind_word
kind_plain k = look_so (λ n s. all_plain (ascii s)) k kinds "" tt tt

after_phrase_plain : (o : Option Value) → T (all_plain (after_phrase o))
unfolding after_phrase
after_phrase_plain none = tt
after_phrase_plain (some v) = plain_append (kind_word v.kind) (ascii "{0}") (kind_plain v.kind) tt

pub message_same : (r : Rec) (o : Option Value) → escaped (message_text r o) ≡ message_text r o
message_same r o =
    plain_same (message_text r o) (plain_append (phrase_of r) (after_phrase o) (phrase_plain r.code r.third.begin) (after_phrase_plain o))

pub shown_text : (v : Value) → leb v.kind 2 ≡ true → escaped (shown v) ≡ escaped v.bytes
unfolding shown
shown_text v e = rw e

pub shown_number : (v : Value) → leb v.kind 2 ≡ false → escaped (shown v) ≡ hexes v.bytes
unfolding shown
shown_number v e = rw e (plain_same (hexes v.bytes) (hexes_plain v.bytes))

pub decimal_same : (n : ℕ) → escaped (decimal n) ≡ decimal n
decimal_same n = plain_same (decimal n) (decimal_plain n)

either_same : (b : Bool) (x y : List ℕ) → T (all_plain x) → T (all_plain y) → escaped (cond b x y) ≡ cond b x y
either_same true x y p q = plain_same x p
either_same false x y p q = plain_same y q

pub level_same : (c : ℕ) → escaped (level c) ≡ level c
level_same c = either_same (disabled c) (ascii "none") (ascii "warning") tt tt

-- ---- a severity tells whether a code is disabled

pub not_warned : (b : Bool) → severity_of b ≡ Disabled → b ≡ true
not_warned true e = refl
not_warned false e = absurd (differ e)
  where
    differ : Warning ≡ Disabled → ⊥
    differ q = let z : ◌≡◌ {A = ℕ} 0 1 = cc q in absurd (omega arith)

pub warned : (b : Bool) → severity_of b ≡ Warning → b ≡ false
warned false e = refl
warned true e = absurd (differ e)
  where
    differ : Disabled ≡ Warning → ⊥
    differ q = let z : ◌≡◌ {A = ℕ} 0 1 = cc q in absurd (omega arith)

-- ---- codes without related locations

apart : (c n : ℕ) → (c ≡ n → ⊥) → T (not (eqb c n))
apart c n f = let z : eqb c n ≡ false = ne_eqb c n f in rw z tt

pub no_second : (c : ℕ) → (c ≡ 7 → ⊥) → (c ≡ 8 → ⊥) → (c ≡ 15 → ⊥) → (c ≡ 16 → ⊥) → look c seconds "" ≡ ""
no_second c d e f g =
    look_none c seconds ""
    (both (not (eqb c 7)) (not (eqb c 8) && (not (eqb c 15) && (not (eqb c 16) && true))) (apart c 7 d)
    (both (not (eqb c 8)) (not (eqb c 15) && (not (eqb c 16) && true)) (apart c 8 e)
    (both (not (eqb c 15)) (not (eqb c 16) && true) (apart c 15 f)
    (both (not (eqb c 16)) true (apart c 16 g) tt))))

pub no_reason_words : (n : ℕ) → (n ≡ 1 → ⊥) → (n ≡ 2 → ⊥) → look n reasons "" ≡ ""
no_reason_words n d e = look_none n reasons "" (both (not (eqb n 1)) (not (eqb n 2) && true) (apart n 1 d) (both (not (eqb n 2)) true (apart n 2 e) tt))

pub no_third : (c : ℕ) → (c ≡ 7 → ⊥) → look c thirds "" ≡ ""
no_third c d = look_none c thirds "" (both (not (eqb c 7)) true (apart c 7 d) tt)

-- 02, §11: what stands in the third span of code 16 is no place
pub reason_no_place : (r : Rec) (s : Span) → r.code ≡ 16
    → related (record { code = r.code; spot = r.spot; second = r.second; third = s; number = r.number; number2 = r.number2 }) ≡ related r
unfolding related other
reason_no_place r s e = rw e
