-- The words of a log's messages: "names and keys as text, numbers in hex of their value bytes". Assumes nothing.
use Rattle.std.specs.Prelude.{ℕ, cond, List, [], ◌∷◌, ◌++◌, eqb, leb, ltb, length}
use Prim.Native.String.{String}
use Rattle.std.proofs.Math.Option.{Option, none, some}
use Rattle.tree.specs.Values.{Value}
use Rattle.tree.specs.Table.{at}
use Rattle.rules.specs.Visit.{look}
use Rattle.rules.specs.Record.{Rec}
use Rattle.base.specs.Ascii.{ascii}
use Rattle.json_text.specs.Escape.{hexes}

-- what is said of each code, before its value; after the Rust's messages
abbrev pub phrases : List (ℕ × String)
phrases =
    (1, "Unused load of") ∷ (2, "Unused assignment of") ∷ (3, "Unused argument") ∷ (4, "Use of unassigned variable")
    ∷ (5, "Use of undefined variable") ∷ (6, "Use of potentially undefined variable")
    ∷ (7, "This return lacks an expression, which is wanted by function") ∷ (8, "No return at the end of function")
    ∷ (9, "Unreachable statement") ∷ (10, "Redundant return at the end of a function")
    ∷ (11, "Redundant continue at the end of a loop") ∷ (12, "A load statement not at the top of the file")
    ∷ (13, "Statement has no effect")
    ∷ (14, "Incompatible check of a type against") ∷ (15, "Duplicate top-level assignment of")
    ∷ (16, "Duplicate dictionary key") ∷ (17, "Statement that does nothing or fails: variable")
    ∷ []

-- 02, §11: why two keys are equal, "same form, or same number in two forms", said of code 16 after its phrase
abbrev pub reasons : List (ℕ × String)
reasons = (1, ", the same key again:") ∷ (2, ", the same number in another form:") ∷ []

-- 01's kinds of values, with the spaces around them; an integer's bytes are its digits of base 256, a float's stand as in the file
abbrev pub kinds : List (ℕ × String)
kinds = (0, " ") ∷ (1, " string ") ∷ (2, " bytes ") ∷ (3, " integer 0x") ∷ (4, " float of bytes ") ∷ []

-- the second and third spans as related locations: 01 gives codes 7, 8, 15 and 16 a second span, 7 a third
abbrev pub seconds : List (ℕ × String)
seconds = (7, "the function") ∷ (8, "why the function wants a value") ∷ (15, "first defined here") ∷ (16, "the equal key after it") ∷ []

abbrev pub thirds : List (ℕ × String)
thirds = (7, "why the function wants a value") ∷ []

-- of any other code or number there is none
unfoldable pub reason : ℕ → ℕ → List ℕ
reason c n = cond (eqb c 16) (ascii (look n reasons "")) []

unfoldable pub phrase : ℕ → ℕ → List ℕ
phrase c n = ascii (look c phrases "") ++ reason c n

-- "In a code 16 record the first word of the third span is then 1 or 2"
abbrev pub phrase_of : Rec → List ℕ
phrase_of r = phrase r.code r.third.begin

unfoldable pub kind_word : ℕ → List ℕ
kind_word k = ascii (look k kinds "")

-- "names and keys as text, numbers in hex of their value bytes"
unfoldable pub shown : Value → List ℕ
shown v = cond (leb v.kind 2) v.bytes (hexes v.bytes)

-- the value of a number, where the table has one
abbrev pub value_of : List Value → ℕ → Option Value
value_of vs v = cond (ltb v (length vs)) (some (at vs v)) none

-- SARIF 3.11.5: a message's text with a placeholder for its value, and the value as the argument that stands for it
unfoldable pub after_phrase : Option Value → List ℕ
after_phrase none = []
after_phrase (some v) = kind_word v.kind ++ ascii "{0}"

abbrev pub message_text : Rec → Option Value → List ℕ
message_text r o = phrase_of r ++ after_phrase o

unfoldable pub arguments : Option Value → List (List ℕ)
arguments none = []
arguments (some v) = shown v ∷ []
