-- How many bytes a log of so many records can have. Assumes nothing.
use Rattle.std.specs.Prelude.{Ok}
use Prim.Native.Nat.{ℕ, zero, suc, ◌+◌, ◌-◌, ◌*◌, ◌≤◌, ◌<◌}
use Prim.Native.String.{String, [] as end, ◌∷◌ as ◌then◌}
use native.Mathlib.Omega.{arith}
use borrow.Author.Tests.{ltb-true, ltb-false, eqb-true, eqb-false}
use mathlib.Core.Path.{◌≡◌, refl, ap}
use mathlib.Core.Bool.{Bool, true, false, cond, ◌&&◌}
use mathlib.Core.List.{List, [], ◌∷◌, ◌++◌}
use mathlib.Core.Option.{Option, none, some}
use lib.Dec.{T, eqb, leb, ltb, leb→le, le→leb}
use lib.ListN.{length, take}
use Rattle.base.specs.Ascii.{ascii}
use Rattle.tree.specs.Bytes.{value_count}
use Rattle.tree.specs.Judge.{judged}
use Rattle.tree.specs.Values.{Value, sense, form_as, formed}
use Rattle.tree.specs.Table.{table_of, at}
use Rattle.tree.specs.declared.Facts.{Facts}
use Rattle.tree.specs.declared.Mode.{Mode}
use Rattle.tree.proofs.TableLaws.{at_past}
use Rattle.tree.proofs.ValidTable.{value_formed}
use Rattle.rules.specs.Visit.{look}
use Rattle.rules.specs.Record.{Rec, Span, spot_span, words, all_words, Each}
use Rattle.rules.specs.Joined.{lint_list, tally_of}
use Rattle.rules.specs.Codes.{short_name}
use Rattle.base.proofs.Bools.{and_left, and_right}
use Rattle.rules.proofs.Look.{look_so}
use Rattle.json_text.specs.Utf8.{front}
use Rattle.json_text.specs.Escape.{unit, escape, escaped, hexes}
use Rattle.page.specs.Digits as to
use Rattle.page.specs.Digits.{decimal}
use Rattle.json_text.specs.Text.{Items, nil}
use Rattle.page.proofs.Decimals.{few_digits, decimal_few}
use Rattle.spans.specs.Fit.{Fit}
use Rattle.spans.proofs.Whole.{file_fit}
use Rattle.sarif_log.specs.Words.{seconds, thirds, kinds, phrase, phrase_of, kind_word, shown, value_of, after_phrase, message_text, arguments}
use Rattle.sarif_log.specs.Log.{level, result_kind, place, message, message_of, strings, other, related, nonzeros, index_of, result, results, rule, if_any, rules, sarif_log, log}
use Rattle.sarif_log.specs.Size.{Bounded}
use Rattle.sarif_log.proofs.Plainly.{phrase_plain, decimal_same}
use Rattle.sarif_log.proofs.Weight.{weight, escaped_length, weight_append, weight_most, plain_weight, hexes_weight}
use Rattle.sarif_log.proofs.Worded.{phrase_short}
use Rattle.sarif_log.proofs.TextSize.{size, items_size, lines_size, member_size, text_length, first_fewer, first_line}
use Rattle.rules.specs.Joined.{codes}

-- ---- what is said of a value

kind_most : (k : ℕ) → weight (kind_word k) ≤ cond (leb k 2) 8 16
unfolding kind_word
kind_most k =
    let q : ℕ → String → Bool = λ n w. leb (weight (ascii w)) (cond (leb n 2) 8 16) in
    leb→le (weight (ascii (look k kinds ""))) (cond (leb k 2) 8 16)
    (look_so q k kinds "" tt (le→leb 0 (cond (leb k 2) 8 16) (omega arith)))

-- "a string's byte takes at most six bytes", and a number's two of hexadecimal digits
said_most : (v : Value) → length v.bytes ≤ 255 → weight (kind_word v.kind) + weight (shown v) ≤ 1538
unfolding shown
said_most v h = go (leb v.kind 2) (kind_most v.kind)
  where
    go : (b : Bool) → weight (kind_word v.kind) ≤ cond b 8 16 → weight (kind_word v.kind) + weight (cond b v.bytes (hexes v.bytes)) ≤ 1538
    go true k = omega (arith, weight_most v.bytes)
    go false k = omega (arith, hexes_weight v.bytes)

abbrev Short : Option Value → Type 0
Short none = Unit {0}
Short (some v) = length v.bytes ≤ 255

value_short : (vs : List Value) (v : ℕ) → length (at vs v).bytes ≤ 255 → Short (value_of vs v)
value_short vs v h = go (ltb v (length vs))
  where
    go : (b : Bool) → Short (cond b (some (at vs v)) none)
    go true = h
    go false = tt

-- the value of a record, with the placeholder and the argument's marks
value_most : (o : Option Value) → Short o → weight (after_phrase o) + items_size true (strings (arguments o)) ≤ 1543
unfolding after_phrase arguments size
value_most none h = omega arith
value_most (some v) h =
    omega (arith, weight_append (kind_word v.kind) (ascii "{0}"), escaped_length (shown v), said_most v h)

-- ---- a place, and the related locations

record U32 (s : Span) : Type 0 where
  begin : s.begin < 4294967296
  end : s.end < 4294967296

place_most : (s : Span) → U32 s → member_size (place s) ≤ 130
unfolding size escape unit front decimal to.digits
place_most s u = omega (arith, decimal_few s.begin u.begin, decimal_few (s.end - s.begin) (omega arith))

message_size : (s : List ℕ) → member_size (message s) ≡ 21 + length (escaped s)
unfolding size escape unit front
message_size s = omega arith

message_of_size : (r : Rec) (o : Option Value)
    → member_size (message_of r o) ≡ 36 + (length (escaped (message_text r o)) + items_size true (strings (arguments o)))
unfolding size escape unit front
message_of_size r o = omega arith

-- a location with these words is at most so large; after another it has a comma
abbrev other_most : String → ℕ
other_most end = 0
other_most (c then w) = 154 + length (escaped (ascii (c then w)))

abbrev later_most : String → ℕ
later_most end = 0
later_most (c then w) = 155 + length (escaped (ascii (c then w)))

first_other : (w : String) (s : Span) (xs : Items) → U32 s → items_size true (other w s xs) ≤ other_most w + items_size false xs
unfolding other size
first_other end s xs u = omega (arith, first_fewer xs)
first_other (c then w) s xs u = omega (arith, place_most s u, message_size (ascii (c then w)))

later_other : (w : String) (s : Span) → U32 s → items_size false (other w s nil) ≤ later_most w
unfolding other size
later_other end s u = omega arith
later_other (c then w) s u = omega (arith, place_most s u, message_size (ascii (c then w)))

related_most : (r : Rec) → U32 r.second → U32 r.third
    → items_size true (related r) ≤ other_most (look r.code seconds "") + later_most (look r.code thirds "")
unfolding related
related_most r u v =
    let w = look r.code seconds "" in
    let z = look r.code thirds "" in
    omega (arith, first_other w r.second (other z r.third nil) u, later_other z r.third v)

-- ---- where a rule stands: no further than its code

nonzeros_most : (ns : List ℕ) (k : ℕ) → nonzeros (take k ns) ≤ k
nonzeros_most ns zero = omega arith
nonzeros_most [] (suc k) = omega arith
nonzeros_most (n ∷ ns) (suc k) = omega (arith, most (ltb 0 n), nonzeros_most ns k)
  where
    most : (b : Bool) → cond b 1 0 ≤ 1
    most true = omega arith
    most false = omega arith

index_digits : (tally : List ℕ) (c : ℕ) → c ≤ codes → length (decimal (index_of tally c)) ≤ cond (ltb c 11) 1 2
unfolding index_of
index_digits tally c h = go (ltb c 11) refl
  where
    go : (b : Bool) → ltb c 11 ≡ b → length (decimal (nonzeros (take (c - 1) tally))) ≤ cond b 1 2
    go true e =
        let l = ltb-true c 11 e in
        let m = nonzeros_most tally (c - 1) in few_digits 0 (nonzeros (take (c - 1) tally)) (omega arith)
    go false e = let m = nonzeros_most tally (c - 1) in few_digits 1 (nonzeros (take (c - 1) tally)) (omega arith)

-- ---- a result: what its code decides, computed for each code, with 60 for a phrase

phrase_most : (c n : ℕ) → weight (phrase c n) ≤ 60
phrase_most c n = omega (arith, plain_weight (phrase c n) (phrase_plain c n), phrase_short c n)

abbrev code_most : ℕ → ℕ
code_most c =
    length (decimal c) + (cond (ltb c 11) 1 2 + (length (escaped (result_kind c)) + (length (escaped (level c)) + (60
    + (other_most (look c seconds "") + later_most (look c thirds ""))))))

abbrev all_below : ℕ → (ℕ → Bool) → Bool
all_below zero q = true
all_below (suc n) q = q n && all_below n q

below_step : (q : ℕ → Bool) (n c : ℕ) (b : Bool) → eqb c n ≡ b → T (q n) → ((eqb c n ≡ false) → T (q c)) → T (q c)
below_step q n c true e t f = rw (eqb-true c n e) t
below_step q n c false e t f = f e

below : (q : ℕ → Bool) (n c : ℕ) → T (all_below n q) → c < n → T (q c)
below q zero c t h = absurd (omega arith)
below q (suc n) c t h =
    below_step q n c (eqb c n) refl (and_left (q n) (all_below n q) t)
    (λ e. let ne = eqb-false c n e in below q n c (and_right (q n) (all_below n q) t) (omega arith))

codes_most : T (all_below (suc codes) (λ c. leb (code_most c) 424))
unfolding decimal to.digits escape unit front
codes_most = tt

code_so : (c : ℕ) → c ≤ codes → code_most c ≤ 424
code_so c h = leb→le (code_most c) 424 (below (λ c. leb (code_most c) 424) (suc codes) c codes_most (omega arith))

result_most : (t tally : List ℕ) (r : Rec) → Bounded t r → size (result t tally r) ≤ 2220
unfolding result size escape unit front
result_most t tally r b =
    let c = r.code in
    let o = value_of (table_of t) r.spot.value in
    omega (
      arith,
      code_so c b.a_code,
      ap length (decimal_same c),
      index_digits tally c b.a_code,
      place_most (spot_span r.spot) (omega (arith, b.each_u32)),
      escaped_length (message_text r o),
      weight_append (phrase_of r) (after_phrase o),
      phrase_most c r.third.begin,
      value_most o (value_short (table_of t) r.spot.value b.short_value),
      message_of_size r o,
      related_most r (omega (arith, b.each_u32)) (omega (arith, b.each_u32)),
    )

-- each after a comma
results_most : (rs : List Rec) (t tally : List ℕ) → Each (Bounded t) rs → lines_size false (results t tally rs) ≤ 2222 * length rs
unfolding results size
results_most [] t tally h = omega arith
results_most (r ∷ rs) t tally h = omega (arith, result_most t tally r h.0, results_most rs t tally h.1)

-- ---- the rules: at most all seventeen

abbrev rules_most : ℕ → List ℕ → ℕ
rules_most c [] = 0
rules_most c (n ∷ ns) = 2 + (size (rule c) + rules_most (suc c) ns)

rule_step : (b : Bool) (c m : ℕ) (xs : Items) → lines_size false xs ≤ m → lines_size false (if_any b (rule c) xs) ≤ 2 + (size (rule c) + m)
unfolding size
rule_step true c m xs h = omega arith
rule_step false c m xs h = omega arith

rules_so : (ns : List ℕ) (c : ℕ) → lines_size false (rules c ns) ≤ rules_most c ns
unfolding rules size
rules_so [] c = omega arith
rules_so (n ∷ ns) c = rule_step (ltb 0 n) c (rules_most (suc c) ns) (rules (suc c) ns) (rules_so ns (suc c))

all_rules : (rs : List Rec) → rules_most 1 (tally_of rs) ≡ 1373
unfolding rule short_name size decimal to.digits escape unit front
all_rules rs = refl

no_rules : lines_size true (rules 1 (tally_of [])) ≡ 0
unfolding rules size
no_rules = refl

-- THE SIZE OF A LOG: of its own 246 bytes, with the rules and the first line less a comma each
pub log_size : (t : List ℕ) (rs : List Rec) → Each (Bounded t) rs → length (log t rs) ≤ 1617 + 2222 * length rs
unfolding log size escape unit front results
log_size t [] h = omega (arith, text_length (sarif_log t (tally_of []) []) (0x0A ∷ []), no_rules)
log_size t (r ∷ rs) h =
    let all = r ∷ rs in
    let tally = tally_of all in
    omega (
      arith,
      text_length (sarif_log t tally all) (0x0A ∷ []),
      first_line (rules 1 tally),
      rules_so tally 1,
      all_rules all,
      first_line (results t tally all),
      results_most all t tally h,
    )

-- ---- of a valid file

each_first : (P : ℕ → Type 0) (xs ys : List ℕ) → Each P (xs ++ ys) → Each P xs
each_first P [] ys u = tt
each_first P (x ∷ xs) ys u = (u.0, each_first P xs ys u.1)

each_rest : (P : ℕ → Type 0) (xs ys : List ℕ) → Each P (xs ++ ys) → Each P ys
each_rest P [] ys u = u
each_rest P (x ∷ xs) ys u = each_rest P xs ys u.1

each_bounded : (t : List ℕ) → ((v : ℕ) → length (at (table_of t) v).bytes ≤ 255) → (rs : List Rec) → Each Fit rs
    → Each (λ w. w < 4294967296) (all_words rs) → Each (Bounded t) rs
each_bounded t short [] f u = tt
each_bounded t short (r ∷ rs) f u = (
  record {
    a_code = f.0.a_code;
    each_u32 = each_first (λ w. w < 4294967296) (words r) (all_words rs) u;
    short_value = short r.spot.value;
  },
  each_bounded t short rs f.1 (each_rest (λ w. w < 4294967296) (words r) (all_words rs) u),
)

-- "Length at most 255"; a number beyond the table stands for no bytes
short_values : (t : List ℕ) (f : Facts) → judged t ≡ Ok f → (v : ℕ) → length (at (table_of t) v).bytes ≤ 255
unfolding formed
short_values t f e v = go (ltb v (value_count t)) refl
  where
    go : (b : Bool) → ltb v (value_count t) ≡ b → length (at (table_of t) v).bytes ≤ 255
    go true p =
        let x = at (table_of t) v in
        leb→le (length x.bytes) 255
        (and_left (leb (length x.bytes) 255) (form_as (sense x.kind) x.bytes) (value_formed t f e v (ltb-true v (value_count t) p)))
    go false p = rw (at_past t v (ltb-false v (value_count t) p)) (omega arith)

-- THE LOG OF A VALID FILE whose list stands in words of 32 bits
pub file_log_size : (t : List ℕ) (f : Facts) → judged t ≡ Ok f → (mode : Mode) → Each (λ w. w < 4294967296) (all_words (lint_list mode t))
    → length (log t (lint_list mode t)) ≤ 1617 + 2222 * length (lint_list mode t)
file_log_size t f e mode u =
    log_size t (lint_list mode t) (each_bounded t (short_values t f e) (lint_list mode t) (file_fit t f e mode) u)
