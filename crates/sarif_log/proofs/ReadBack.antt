-- 02, §1: "Reading the log back by a small reader of this profile gives the same codes and first spans in order." Assumes nothing.
use Prim.Native.Nat.{ℕ, suc, ◌+◌, ◌-◌, ◌≤◌}
use native.Mathlib.Omega.{arith}
use mathlib.Core.Path.{◌≡◌, refl, ap, ◌∙◌}
use mathlib.Core.Bool.{Bool, true, false}
use mathlib.Core.List.{List, [], ◌∷◌, ◌++◌, map, append-nil}
use mathlib.Core.Option.{Option, none, some}
use lib.Dec.{ltb}
use Rattle.tree.specs.Table.{table_of}
use Rattle.rules.specs.Record.{Rec, Each}
use Rattle.rules.specs.Joined.{tally_of}
use Rattle.base.specs.Ascii.{ascii}
use Rattle.json_text.specs.Utf8.{front}
use Rattle.json_text.specs.Escape.{escape, escaped, unit}
use Rattle.page.specs.Digits as to
use Rattle.page.specs.Digits.{decimal}
use Rattle.json_text.specs.Text.{Json, string, rows, Items, done, ◌⨾◌, ◌⇒◌, comma, text, lines, members}
use Rattle.spans.specs.Fit.{Fit}
use Rattle.sarif_log.specs.Words.{value_of, arguments}
use Rattle.sarif_log.specs.Log.{only, one, ◌is◌, level, result_kind, message_of, index_of, related, result, results, rule, if_any, rules, log, sarif_log}
use Rattle.sarif_log.specs.Reader.{Found, expect, digits, result_at, found_before, read, found}
use Rattle.sarif_log.proofs.Decimal.{number_reads}
use Rattle.sarif_log.proofs.Plainly.{decimal_same}
use Rattle.sarif_log.proofs.Quiet.{after_text, strings_plain, related_plain}

abbrev opening : List ℕ
opening = ascii "{\"ruleId\":\""

abbrev then_index : List ℕ
then_index = ascii "\",\"ruleIndex\":"

abbrev then_begin : List ℕ
then_begin = ascii ",\"locations\":[{\"physicalLocation\":{\"artifactLocation\":{\"uri\":\"script.star\",\"index\":0},\"region\":{\"byteOffset\":"

abbrev then_length : List ℕ
then_length = ascii ",\"byteLength\":"

-- the four numbers of a result are read, in their order
four : (c i b l : ℕ) (code s : List ℕ) → code ≡ decimal c
    → result_at (opening ++ (code ++ (then_index ++ (decimal i ++ (then_begin ++ (decimal b ++ (then_length ++ (decimal l ++ (0x7D ∷ s)))))))))
    ≡ some (record { code = c; span = record { begin = b; end = b + l } })
unfolding result_at digits expect
four c i b l code s e = rw (e, number_reads c, number_reads i, number_reads b, number_reads l)

-- what follows the first span in a result
abbrev after_span : List ℕ → Rec → List ℕ → List ℕ
after_span t r rest =
    0x7D ∷ 0x7D ∷ 0x5D
    ∷ members false
    ("kind" ⇒ string (result_kind r.code)
    ⨾ "level" ⇒ string (level r.code)
    ⨾ message_of r (value_of (table_of t) r.spot.value)
    ⨾ "relatedLocations" ⇒ Json.array (related r)
    ⨾ done) (0x7D ∷ rest)

-- a result's line gives its code and its first span
result_found : (t tally : List ℕ) (r : Rec) (rest : List ℕ) → r.spot.begin ≤ r.spot.end → result_at (text (result t tally r) rest) ≡ some (found r)
unfolding result text escape unit front decimal to.digits
result_found t tally r rest h =
    let b = r.spot.begin in
    let e : b + (r.spot.end - b) ≡ r.spot.end = omega arith in
    four r.code (index_of tally r.code) b (r.spot.end - b) (escaped (decimal r.code)) (after_span t r rest) (decimal_same r.code)
    ∙ ap (λ (n : ℕ). some (record { code = r.code; span = record { begin = b; end = n } })) e

after_result : (t tally : List ℕ) (r : Rec) (rest : List ℕ) → read (text (result t tally r) rest) ≡ read rest
unfolding result
after_result t tally r rest =
    let args = strings_plain (arguments (value_of (table_of t) r.spot.value)) in
    after_text (result t tally r) (tt, (tt, (omega arith, (tt, (tt, ((tt, (args, tt)), (related_plain r, tt))))))) rest

-- a rule's line is no result
rule_no_result : (c : ℕ) (rest : List ℕ) → result_at (text (rule c) rest) ≡ none
unfolding rule text escape unit front result_at expect
rule_no_result c rest = refl

after_rule : (c : ℕ) (rest : List ℕ) → read (text (rule c) rest) ≡ read rest
unfolding rule
after_rule c rest = after_text (rule c) (omega arith) rest

-- a line, after what was before it
line_read : (first : Bool) (s : List ℕ) → read (comma first (0x0A ∷ s)) ≡ found_before (result_at s) (read s)
unfolding read
line_read true s = refl
line_read false s = refl

rule_read : (b first : Bool) (c : ℕ) (xs : Items) (rest : List ℕ) → ((first : Bool) → read (lines first xs rest) ≡ read rest)
    → read (lines first (if_any b (rule c) xs) rest) ≡ read rest
unfolding text
rule_read false first c xs rest e = e first
rule_read true first c xs rest e =
    let s = text (rule c) (lines false xs rest) in
    line_read first s ∙ (ap (λ (o : Option Found). found_before o (read s)) (rule_no_result c (lines false xs rest))
    ∙ (after_rule c (lines false xs rest) ∙ e false))

after_rules : (ns : List ℕ) (c : ℕ) (rest : List ℕ) (first : Bool) → read (lines first (rules c ns) rest) ≡ read rest
unfolding rules text
after_rules [] c rest first = refl
after_rules (n ∷ ns) c rest first = rule_read (ltb 0 n) first c (rules (suc c) ns) rest (after_rules ns (suc c) rest)

-- the results are found, in their order
read_results : (rs : List Rec) (t tally : List ℕ) (first : Bool) (rest : List ℕ) → Each Fit rs
    → read (lines first (results t tally rs) rest) ≡ map found rs ++ read rest
unfolding results text
read_results [] t tally first rest h = refl
read_results (r ∷ rs) t tally first rest h =
    let more = lines false (results t tally rs) rest in
    let s = text (result t tally r) more in
    line_read first s ∙ (ap (λ (o : Option Found). found_before o (read s)) (result_found t tally r more h.0.first)
    ∙ ap (λ (fs : List Found). found r ∷ fs) (after_result t tally r more ∙ read_results rs t tally false rest h.1))

abbrev ending : List ℕ
ending = 0x5D ∷ 0x7D ∷ 0x5D ∷ 0x7D ∷ 0x0A ∷ []

-- what follows the rules
abbrev beyond : List ℕ → List ℕ → List Rec → List ℕ
beyond t tally rs =
    0x5D ∷ 0x7D ∷ 0x7D
    ∷ members false ("artifacts" ⇒ one (only ("location" ⇒ only ("uri" is "script.star"))) ⨾ "results" ⇒ rows (results t tally rs) ⨾ done)
    (0x7D ∷ 0x5D ∷ 0x7D ∷ 0x0A ∷ [])

before_rules : (t tally : List ℕ) (rs : List Rec) → read (text (sarif_log t tally rs) (0x0A ∷ [])) ≡ read (lines true (rules 1 tally) (beyond t tally rs))
unfolding read text escape unit front
before_rules t tally rs = refl

before_results : (t tally : List ℕ) (rs : List Rec) → read (beyond t tally rs) ≡ read (lines true (results t tally rs) ending)
unfolding read text escape unit front
before_results t tally rs = refl

after_all : read ending ≡ []
unfolding read result_at expect
after_all = refl

-- THE LOG READ BACK
pub read_back : (t : List ℕ) (rs : List Rec) → Each Fit rs → read (log t rs) ≡ map found rs
unfolding log
read_back t rs h =
    let tally = tally_of rs in
    before_rules t tally rs
    ∙ (after_rules tally 1 (beyond t tally rs) true
    ∙ (before_results t tally rs
    ∙ (read_results rs t tally true ending h ∙ (ap (λ (fs : List Found). map found rs ++ fs) after_all ∙ append-nil (map found rs)))))
