-- For the code: the pieces that its functions write, and what they require. Assumes nothing.
use Rattle.std.specs.Prelude.{ℕ, ◌+◌, ◌-◌, ◌≤◌, ◌<◌, Bool, true, false, List, [], ◌∷◌, ◌++◌, eqb, ltb, length, get_or}
use Rattle.std.proofs.Math.Option.{Option}
use Rattle.tree.specs.Bytes.{node_count, value_count, u16_at}
use Rattle.tree.specs.Values.{Value, offset}
use Rattle.rules.specs.Visit.{look}
use Rattle.rules.specs.Record.{Rec, Span, spot_span}
use Rattle.base.specs.Ascii.{ascii}
use Rattle.page.specs.Digits.{decimal}
use Rattle.json_text.specs.Text.{nil, string, number, array, object, done, ◌⨾◌, ◌⇒◌, comma, text, member, items, lines}
use Rattle.sarif_log.specs.Words.{seconds, after_phrase, arguments}
use Rattle.sarif_log.specs.Log.{only, one, level, result_kind, place, message, strings, other, related, index_of, result, rule, rules}

abbrev pub span : ℕ → ℕ → Span
span b e = record { begin = b; end = e }

-- a location but for its closing brace
abbrev pub open_place : Span → List ℕ → List ℕ
open_place s rest = 0x7B ∷ member (place s) rest

-- a related location
abbrev pub related_place : List ℕ → Span → List ℕ → List ℕ
related_place says s rest = text (object (place s ⨾ message says ⨾ done)) rest

-- the related location of a code's second span, where there are words for it
abbrev pub second_related : ℕ → Span → List ℕ → List ℕ
second_related code s rest = items true (other (look code seconds "") s nil) rest

-- the related locations of a record
abbrev pub all_related : Rec → List ℕ → List ℕ
all_related r rest = items true (related r) rest

-- what follows its phrase in a message
abbrev pub message_end : Option Value → List ℕ → List ℕ
message_end o rest = after_phrase o ++ (0x22 ∷ 0x2C ∷ member ("arguments" ⇒ array (strings (arguments o))) (0x7D ∷ rest))

-- the rule of a code on its line, if the code is present
abbrev pub rule_line : List ℕ → ℕ → List ℕ → List ℕ
rule_line tally code rest =
    elim (ltb 0 (get_or tally (code - 1) 0)) [
      | true ↦ comma (eqb (index_of tally code) 0) (0x0A ∷ text (rule code) rest)
      | false ↦ rest
    ]

-- a result's parts
abbrev pub result_rule : List ℕ → ℕ → List ℕ → List ℕ
result_rule tally code rest =
    0x7B ∷ member ("ruleId" ⇒ string (decimal code)) (0x2C ∷ member ("ruleIndex" ⇒ number (index_of tally code)) rest)

abbrev pub result_standing : ℕ → List ℕ → List ℕ
result_standing code rest =
    member ("kind" ⇒ string (result_kind code)) (0x2C ∷ member ("level" ⇒ string (level code)) rest)

abbrev pub result_place : Rec → List ℕ → List ℕ
result_place r rest =
    0x2C ∷ member ("locations" ⇒ one (only (place (spot_span r.spot)))) (0x2C ∷ result_standing r.code rest)

abbrev pub result_related : Rec → List ℕ → List ℕ
result_related r rest = 0x2C ∷ member ("relatedLocations" ⇒ array (related r)) (0x7D ∷ rest)

-- ---- the log in pieces (proofs/InPieces: one after the other they are the log), each of at most so many bytes

abbrev pub piece_most : ℕ
piece_most = 5000

-- what stands before the first result, and what stands after the last
abbrev pub head : List ℕ → List ℕ
head tally =
    ascii "{\"$schema\":\"https://docs.oasis-open.org/sarif/sarif/v2.1.0/errata01/os/schemas/sarif-schema-2.1.0.json\",\"version\":\"2.1.0\",\"runs\":[{\"tool\":{\"driver\":{\"name\":\"Yudronkha\",\"rules\":["
    ++ (lines true (rules 1 tally) [] ++ ascii "]}},\"artifacts\":[{\"location\":{\"uri\":\"script.star\"}}],\"results\":[")

abbrev pub tail : List ℕ
tail = ascii "]}]}\n"

-- each result on its line
abbrev pub result_lines : Bool → List ℕ → List ℕ → List Rec → List (List ℕ)
result_lines first t tally [] = []
result_lines first t tally (r ∷ rs) = comma first (0x0A ∷ text (result t tally r) []) ∷ result_lines false t tally rs

unfoldable pub pieces : List ℕ → List ℕ → List Rec → List (List ℕ)
pieces t tally rs = head tally ∷ (result_lines true t tally rs ++ (tail ∷ []))

abbrev pub piece_of : List ℕ → List ℕ → List Rec → ℕ → List ℕ
piece_of t tally rs k = get_or (pieces t tally rs) k []

-- ---- what is required

-- the value that starts at o is within the file, and short
pub record Here (t : List ℕ) (o : ℕ) : Type 0 where
  pub inside : o + 3 + u16_at t (o + 1) ≤ length t
  pub short : u16_at t (o + 1) ≤ 255

-- the values of the file t are few, and each is so
pub record Small (t : List ℕ) : Type 0 where
  pub few : value_count t ≤ 512
  pub here : (v : ℕ) → v < value_count t → Here t (offset t (node_count t) v)
