-- SARIF 2.1.0, 3.11.5, placeholders alone, over bytes before JSON's escape: a message fills to its phrase, for a duplicate key with the
-- reason, its value's kind and the value; in the log bytes outside UTF-8 are as the escape has them. Assumes nothing.
use Prim.Native.Nat.{ℕ}
use Prim.Native.String.{String}
use mathlib.Core.Path.{◌≡◌, refl, sym, ap, ◌∙◌}
use mathlib.Core.Bool.{Bool, true, false, cond, ◌&&◌, not}
use mathlib.Core.List.{List, [], ◌∷◌, ◌++◌, append-nil}
use mathlib.Core.Option.{none, some}
use lib.Dec.{T, eqb, ltb}
use lib.ListN.{length, get_or-eq_default}
use borrow.Author.Tests.{ltb-false}
use Rattle.base.specs.Ascii.{ascii}
use Rattle.base.proofs.Bools.{nope, and_left, and_right, both}
use Rattle.tree.specs.Values.{Value}
use Rattle.tree.specs.Table.{table_of, no_value, at}
use Rattle.rules.specs.Record.{Rec}
use Rattle.rules.specs.Visit.{look}
use Rattle.rules.proofs.Look.{look_so}
use Rattle.json_text.specs.Escape.{hex, hexes}
use Rattle.sarif_log.specs.Words.{phrases, kinds, seconds, thirds, reason, phrase, phrase_of, kind_word, shown, value_of, after_phrase, message_text, arguments}
use Rattle.sarif_log.specs.Fill.{fill, filled, says}
use Rattle.sarif_log.proofs.Plainly.{reason_so}

-- ---- words without a brace are shown as they are

abbrev no_brace : ℕ → Bool
no_brace b = not (eqb b 0x7B) && not (eqb b 0x7D)

abbrev no_braces : List ℕ → Bool
no_braces [] = true
no_braces (b ∷ s) = no_brace b && no_braces s

no_braces_append : (s u : List ℕ) → T (no_braces s) → T (no_braces u) → T (no_braces (s ++ u))
no_braces_append [] u p q = q
no_braces_append (b ∷ s) u p q =
    both (no_brace b) (no_braces (s ++ u)) (and_left (no_brace b) (no_braces s) p)
    (no_braces_append s u (and_right (no_brace b) (no_braces s) p) q)

phrase_plain : (c n : ℕ) → T (no_braces (phrase c n))
unfolding phrase
phrase_plain c n =
    no_braces_append (ascii (look c phrases "")) (reason c n) (look_so (λ n s. no_braces (ascii s)) c phrases "" tt tt) (reason_so no_braces tt tt c n)

kind_plain : (k : ℕ) → T (no_braces (kind_word k))
unfolding kind_word
kind_plain k = look_so (λ n s. no_braces (ascii s)) k kinds "" tt tt

before : (args : List (List ℕ)) (s u e : List ℕ) → T (no_braces s) → filled args u ≡ some e → filled args (s ++ u) ≡ some (s ++ e)
unfolding fill
before args [] u e p h = h
before args (b ∷ s) u e p h =
    let q = and_left (no_brace b) (no_braces s) p in
    rw (
      nope (eqb b 0x7B) (and_left (not (eqb b 0x7B)) (not (eqb b 0x7D)) q),
      nope (eqb b 0x7D) (and_right (not (eqb b 0x7B)) (not (eqb b 0x7D)) q),
      before args s u e (and_right (no_brace b) (no_braces s) p) h,
    )

alone : (s : List ℕ) → T (no_braces s) → filled [] s ≡ some s
unfolding fill
alone s p = ap (filled []) (sym (append-nil s)) ∙ (before [] s [] [] p refl ∙ ap some (append-nil s))

-- the placeholder is shown as the argument, whatever that is
placed : (a : List ℕ) → filled (a ∷ []) (ascii "{0}") ≡ some a
unfolding fill
placed a = ap some (append-nil a)

some_shown : (r : Rec) (w : Value) → filled (arguments (some w)) (message_text r (some w)) ≡ some (phrase_of r ++ (kind_word w.kind ++ shown w))
unfolding after_phrase arguments
some_shown r w =
    before (shown w ∷ []) (phrase_of r) (kind_word w.kind ++ ascii "{0}") (kind_word w.kind ++ shown w)
    (phrase_plain r.code r.third.begin)
    (before (shown w ∷ []) (kind_word w.kind) (ascii "{0}") (shown w) (kind_plain w.kind) (placed (shown w)))

none_shown : (r : Rec) → filled (arguments none) (message_text r none) ≡ some (phrase_of r ++ (kind_word no_value.kind ++ shown no_value))
unfolding after_phrase arguments kind_word shown hexes fill
none_shown r = before [] (phrase_of r) [] [] (phrase_plain r.code r.third.begin) refl

message_shown : (vs : List Value) (r : Rec) → let o = value_of vs r.spot.value in filled (arguments o) (message_text r o) ≡ some (says vs r)
message_shown vs r = go (ltb r.spot.value (length vs)) refl
  where
    go : (b : Bool) → ltb r.spot.value (length vs) ≡ b → let o = cond b (some (at vs r.spot.value)) none in
        filled (arguments o) (message_text r o) ≡ some (says vs r)
    go true e = some_shown r (at vs r.spot.value)
    go false e =
        let z : at vs r.spot.value ≡ no_value = get_or-eq_default vs no_value (ltb-false r.spot.value (length vs) e) in
        none_shown r ∙ ap (λ (w : Value). some (phrase_of r ++ (kind_word w.kind ++ shown w))) (sym z)

-- EVERY MESSAGE FILLS TO WHAT IT SAYS, for every file and every record
pub message_filled : (t : List ℕ) (r : Rec) → let o = value_of (table_of t) r.spot.value in
    filled (arguments o) (message_text r o) ≡ some (says (table_of t) r)
message_filled t r = message_shown (table_of t) r

-- the messages of related locations have no arguments, and no placeholder
pub other_filled : (c : ℕ) → filled [] (ascii (look c seconds "")) ≡ some (ascii (look c seconds ""))
other_filled c = alone (ascii (look c seconds "")) (look_so (λ n s. no_braces (ascii s)) c seconds "" tt tt)

pub third_filled : (c : ℕ) → filled [] (ascii (look c thirds "")) ≡ some (ascii (look c thirds ""))
third_filled c = alone (ascii (look c thirds "")) (look_so (λ n s. no_braces (ascii s)) c thirds "" tt tt)

-- ---- a duplicate key, for each of 02's two reasons

abbrev duplicate : ℕ → Rec
duplicate n =
    record {
      code = 16;
      spot = record { begin = 1; end = 2; value = 0 };
      second = record { begin = 6; end = 9 };
      third = record { begin = n; end = 0 };
      number = 1;
      number2 = 3;
    }

abbrev shows_as : ℕ → Value → String → Type 0
shows_as n v s = filled (arguments (some v)) (message_text (duplicate n) (some v)) ≡ some (ascii s)

-- a key with braces: an argument's are no placeholders
pub braces_kept : shows_as 1 (record { kind = 1; bytes = ascii "{name} [a](b) }" })
    "Duplicate dictionary key, the same key again: string {name} [a](b) }"
unfolding fill after_phrase arguments phrase reason kind_word shown
braces_kept = refl

pub number_said : shows_as 2 (record { kind = 3; bytes = 1 ∷ [] }) "Duplicate dictionary key, the same number in another form: integer 0x01"
unfolding fill after_phrase arguments phrase reason kind_word shown hexes hex
number_said = refl
