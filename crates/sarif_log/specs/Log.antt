-- 02, §1: "Write the list as one SARIF log", SARIF 2.1.0 of OASIS. Assumes nothing.
use Rattle.std.specs.Prelude.{ℕ, suc, ◌+◌, ◌-◌, Bool, true, false, cond, List, [], ◌∷◌, ltb, take}
use Prim.Native.String.{String, [] as end, ◌∷◌ as ◌then◌}
use Rattle.std.proofs.Math.Option.{Option}
use Rattle.tree.specs.Values.{Value}
use Rattle.tree.specs.Table.{table_of}
use Rattle.rules.specs.Visit.{look}
use Rattle.rules.specs.Record.{Rec, Span, spot_span}
use Rattle.rules.specs.Joined.{tally_of}
use Rattle.base.specs.Ascii.{ascii}
use Rattle.rules.specs.Codes.{disabled, short_name}
use Rattle.page.specs.Digits.{decimal}
use Rattle.json_text.specs.Text.{Json, string, number, array, rows, object, Items, nil, item, done, ◌⨾◌, Member, ◌⇒◌, text}
use Rattle.sarif_log.specs.Words.{seconds, thirds, value_of, message_text, arguments}

infix 5 ◌is◌
-- a member that is an ASCII text
abbrev pub ◌is◌ : String → String → Member
key is s = key ⇒ string (ascii s)

abbrev pub only : Member → Json
only m = object (m ⨾ done)

abbrev pub one : Json → Json
one x = array (item x nil)

-- "level (warning, or none for disabled)"
abbrev pub level : ℕ → List ℕ
level c = cond (disabled c) (ascii "none") (ascii "warning")

-- SARIF 3.27.9 and 3.27.10: a level other than none is that of a result whose kind is fail
abbrev pub result_kind : ℕ → List ℕ
result_kind c = cond (disabled c) (ascii "informational") (ascii "fail")

-- "its byte offset and length"
abbrev pub region : Span → Json
region s = object ("byteOffset" ⇒ number s.begin ⨾ "byteLength" ⇒ number (s.end - s.begin) ⨾ done)

-- "the artifact always script.star", the first of the run's artifacts
abbrev pub place : Span → Member
place s =
    "physicalLocation" ⇒ object
    ("artifactLocation" ⇒ object ("uri" is "script.star" ⨾ "index" ⇒ number 0 ⨾ done)
    ⨾ "region" ⇒ region s
    ⨾ done)

abbrev pub message : List ℕ → Member
message s = "message" ⇒ only ("text" ⇒ string s)

abbrev pub strings : List (List ℕ) → Items
strings [] = nil
strings (s ∷ ss) = item (string s) (strings ss)

-- "names and keys as text, numbers in hex of their value bytes": what is said of a record and its value
abbrev pub message_of : Rec → Option Value → Member
message_of r o = "message" ⇒ object ("text" ⇒ string (message_text r o) ⨾ "arguments" ⇒ array (strings (arguments o)) ⨾ done)

-- a related location, where there are words for it
unfoldable pub other : String → Span → Items → Items
other end s xs = xs
other (c then w) s xs = item (object (place s ⨾ message (ascii (c then w)) ⨾ done)) xs

unfoldable pub related : Rec → Items
related r = other (look r.code seconds "") r.second (other (look r.code thirds "") r.third nil)

-- the rules before that of code c, of the counts of each code: where it stands among them
abbrev pub nonzeros : List ℕ → ℕ
nonzeros [] = 0
nonzeros (n ∷ ns) = cond (ltb 0 n) 1 0 + nonzeros ns

unfoldable pub index_of : List ℕ → ℕ → ℕ
index_of tally c = nonzeros (take (c - 1) tally)

-- "a result for each record"
unfoldable pub result : List ℕ → List ℕ → Rec → Json
result t tally r =
    object
    ("ruleId" ⇒ string (decimal r.code)
    ⨾ "ruleIndex" ⇒ number (index_of tally r.code)
    ⨾ "locations" ⇒ one (only (place (spot_span r.spot)))
    ⨾ "kind" ⇒ string (result_kind r.code)
    ⨾ "level" ⇒ string (level r.code)
    ⨾ message_of r (value_of (table_of t) r.spot.value)
    ⨾ "relatedLocations" ⇒ array (related r)
    ⨾ done)

unfoldable pub results : List ℕ → List ℕ → List Rec → Items
results t tally [] = nil
results t tally (r ∷ rs) = item (result t tally r) (results t tally rs)

-- "a rule .. with its short name and level"
unfoldable pub rule : ℕ → Json
rule c =
    object
    ("id" ⇒ string (decimal c)
    ⨾ "name" ⇒ string (short_name c)
    ⨾ "defaultConfiguration" ⇒ only ("level" ⇒ string (level c))
    ⨾ done)

abbrev pub if_any : Bool → Json → Items → Items
if_any true x xs = item x xs
if_any false x xs = xs

-- "a rule for each code present", in the order of the codes; the first count is that of code c
unfoldable pub rules : ℕ → List ℕ → Items
rules c [] = nil
rules c (n ∷ ns) = if_any (ltb 0 n) (rule c) (rules (suc c) ns)

abbrev pub driver : List ℕ → Json
driver tally = object ("name" is "Yudronkha" ⨾ "rules" ⇒ rows (rules 1 tally) ⨾ done)

abbrev pub run : List ℕ → List ℕ → List Rec → Json
run t tally rs =
    object
    ("tool" ⇒ only ("driver" ⇒ driver tally)
    ⨾ "artifacts" ⇒ one (only ("location" ⇒ only ("uri" is "script.star")))
    ⨾ "results" ⇒ rows (results t tally rs)
    ⨾ done)

abbrev pub sarif_log : List ℕ → List ℕ → List Rec → Json
sarif_log t tally rs =
    object
    ("$schema" is "https://docs.oasis-open.org/sarif/sarif/v2.1.0/errata01/os/schemas/sarif-schema-2.1.0.json"
    ⨾ "version" is "2.1.0"
    ⨾ "runs" ⇒ one (run t tally rs)
    ⨾ done)

-- the log of the list rs of the file t, with a line's end after it
unfoldable pub log : List ℕ → List Rec → List ℕ
log t rs = text (sarif_log t (tally_of rs) rs) (0x0A ∷ [])
