-- What the functions of log.rt write, one constant text after the other, is the text of the JSON value. Assumes nothing.
use Prim.Native.Nat.{ℕ, ◌-◌}
use mathlib.Core.Path.{◌≡◌, refl, sym, ap, ◌∙◌}
use mathlib.Core.Bool.{true, false}
use mathlib.Core.List.{List, [], ◌∷◌, ◌++◌, append_assoc}
use mathlib.Core.Option.{Option, none, some}
use Rattle.tree.specs.Values.{Value}
use Rattle.tree.specs.Table.{table_of}
use Rattle.rules.specs.Record.{Rec, Span, spot_span}
use Rattle.base.specs.Ascii.{ascii}
use Rattle.rules.specs.Codes.{short_name, disabled}
use Rattle.json_text.specs.Utf8.{front}
use Rattle.json_text.specs.Escape.{unit, escape, escaped}
use Rattle.page.specs.Digits.{digits, decimal}
use Rattle.json_text.specs.Text.{string, array, ◌⇒◌, quoted, text, member, lines}
use Rattle.json_text.proofs.Sound.{lines_rest}
use Rattle.sarif_log.specs.Words.{phrase_of, kind_word, shown, after_phrase, arguments, value_of}
use Rattle.sarif_log.specs.Log.{only, level, message_of, strings, index_of, result, results, rule, rules, sarif_log}
use Rattle.sarif_log.specs.Pieces.{open_place, related_place, all_related, message_end, result_rule, result_standing, result_place, result_related, head, tail}
use Rattle.sarif_log.proofs.Plainly.{message_same, decimal_same, level_same}

pub place_text : (s : Span) (rest : List ℕ)
    → ascii "{\"physicalLocation\":{\"artifactLocation\":{\"uri\":\"script.star\",\"index\":0},\"region\":{\"byteOffset\":"
    ++ (decimal s.begin ++ (ascii ",\"byteLength\":" ++ (decimal (s.end - s.begin) ++ (ascii "}}" ++ rest))))
    ≡ open_place s rest
unfolding text escape unit front decimal digits
place_text s rest = refl

pub other_text : (says : List ℕ) (s : Span) (rest : List ℕ) → escaped says ≡ says
    → open_place s (ascii ",\"message\":{\"text\":\"" ++ (says ++ (ascii "\"}}" ++ rest))) ≡ related_place says s rest
unfolding text escape unit front
other_text says s rest e = rw e

pub no_value_text : (rest : List ℕ) → ascii "\",\"arguments\":[]}" ++ rest ≡ message_end none rest
unfolding text escape unit front after_phrase arguments
no_value_text rest = refl

pub value_text : (v : Value) (rest : List ℕ)
    → kind_word v.kind ++ (ascii "{0}\",\"arguments\":[\"" ++ (escaped (shown v) ++ (ascii "\"]}" ++ rest))) ≡ message_end (some v) rest
unfolding text escape unit front after_phrase arguments
value_text v rest = rw append_assoc

pub message_of_text : (r : Rec) (o : Option Value) (rest : List ℕ)
    → ascii "\"message\":{\"text\":\"" ++ (phrase_of r ++ message_end o rest) ≡ member (message_of r o) rest
unfolding text escape unit front
message_of_text r o rest =
    rw (message_same r o) (ap (λ (l : List ℕ). ascii "\"message\":{\"text\":\"" ++ l) (sym (append_assoc (phrase_of r) (after_phrase o)
    (0x22 ∷ 0x2C ∷ member ("arguments" ⇒ array (strings (arguments o))) (0x7D ∷ rest)))))

pub rule_level_text : (code : ℕ) (rest : List ℕ)
    → ascii ",\"defaultConfiguration\":{\"level\":\"" ++ (level code ++ (ascii "\"}}" ++ rest))
    ≡ 0x2C ∷ member ("defaultConfiguration" ⇒ only ("level" ⇒ string (level code))) (0x7D ∷ rest)
unfolding text escape unit front
rule_level_text code rest = rw (level_same code)

pub rule_text : (code : ℕ) (rest : List ℕ)
    → ascii "{\"id\":\"" ++ (decimal code ++ (ascii "\",\"name\":" ++ quoted (short_name code)
    (0x2C ∷ member ("defaultConfiguration" ⇒ only ("level" ⇒ string (level code))) (0x7D ∷ rest))))
    ≡ text (rule code) rest
unfolding text escape unit front rule
rule_text code rest = rw (decimal_same code)

pub result_rule_text : (tally : List ℕ) (code : ℕ) (rest : List ℕ)
    → ascii "{\"ruleId\":\"" ++ (decimal code ++ (ascii "\",\"ruleIndex\":" ++ (decimal (index_of tally code) ++ rest)))
    ≡ result_rule tally code rest
unfolding text escape unit front
result_rule_text tally code rest = rw (decimal_same code)

pub standing_none : (code : ℕ) → disabled code ≡ true → (rest : List ℕ)
    → ascii "\"kind\":\"informational\",\"level\":\"none\"" ++ rest ≡ result_standing code rest
unfolding text escape unit front
standing_none code e rest = rw e

pub standing_warning : (code : ℕ) → disabled code ≡ false → (rest : List ℕ)
    → ascii "\"kind\":\"fail\",\"level\":\"warning\"" ++ rest ≡ result_standing code rest
unfolding text escape unit front
standing_warning code e rest = rw e

pub result_place_text : (r : Rec) (rest : List ℕ)
    → ascii ",\"locations\":[" ++ open_place (spot_span r.spot) (ascii "}]," ++ result_standing r.code (ascii "," ++ rest))
    ≡ result_place r (0x2C ∷ rest)
unfolding text escape unit front
result_place_text r rest = refl

pub result_related_text : (r : Rec) (rest : List ℕ)
    → ascii ",\"relatedLocations\":[" ++ all_related r (ascii "]}" ++ rest) ≡ result_related r rest
unfolding text escape unit front
result_related_text r rest = refl

pub result_text : (t tally : List ℕ) (r : Rec) (rest : List ℕ)
    → result_rule tally r.code (result_place r (0x2C ∷ member (message_of r (value_of (table_of t) r.spot.value)) (result_related r rest)))
    ≡ text (result t tally r) rest
unfolding text result
result_text t tally r rest = refl

abbrev before_rules : List ℕ
before_rules =
    ascii "{\"$schema\":\"https://docs.oasis-open.org/sarif/sarif/v2.1.0/errata01/os/schemas/sarif-schema-2.1.0.json\",\"version\":\"2.1.0\",\"runs\":[{\"tool\":{\"driver\":{\"name\":\"Yudronkha\",\"rules\":["

abbrev after_rules : List ℕ
after_rules = ascii "]}},\"artifacts\":[{\"location\":{\"uri\":\"script.star\"}}],\"results\":["

pub head_text : (tally rest : List ℕ) → before_rules ++ lines true (rules 1 tally) (after_rules ++ rest) ≡ head tally ++ rest
head_text tally rest =
    ap (λ (l : List ℕ). before_rules ++ l) (lines_rest (rules 1 tally) true (after_rules ++ rest)
    ∙ sym (append_assoc (lines true (rules 1 tally) []) after_rules rest))

all_text : (t tally : List ℕ) (rs : List Rec) (rest : List ℕ)
    → before_rules ++ lines true (rules 1 tally) (after_rules ++ lines true (results t tally rs) (tail ++ rest))
    ≡ text (sarif_log t tally rs) (0x0A ∷ rest)
unfolding text escape unit front
all_text t tally rs rest = refl

pub log_text : (t tally : List ℕ) (rs : List Rec) (rest : List ℕ)
    → head tally ++ lines true (results t tally rs) (tail ++ rest) ≡ text (sarif_log t tally rs) (0x0A ∷ rest)
log_text t tally rs rest = sym (head_text tally (lines true (results t tally rs) (tail ++ rest))) ∙ all_text t tally rs rest
