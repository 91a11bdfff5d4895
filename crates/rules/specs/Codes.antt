-- The seventeen codes: 01's severity of each, and the short name that the Rust gives it. Assumes nothing.
use Rattle.std.specs.Prelude.{ℕ, Bool, ◌||◌, List, [], ◌∷◌, eqb}
use Prim.Native.String.{String}
use Rattle.tree.specs.Bytes.{ascii}
use Rattle.rules.specs.Visit.{look}

-- "Of all codes 1, 2, 3, 5, 10 and 11 have severity disabled, the rest warning."
abbrev pub disabled : ℕ → Bool
disabled c = eqb c 1 || (eqb c 2 || (eqb c 3 || (eqb c 5 || (eqb c 10 || eqb c 11))))

-- `short_name` of names.rs, flow.rs, incompatible.rs and dubious.rs
abbrev pub short_names : List (ℕ × String)
short_names =
    (1, "unused-load") ∷ (2, "unused-assign") ∷ (3, "unused-argument") ∷ (4, "using-unassigned") ∷ (5, "using-undefined")
    ∷ (6, "using-maybe-undefined")
    ∷ (7, "missing-return-expression") ∷ (8, "missing-return") ∷ (9, "unreachable") ∷ (10, "redundant-return")
    ∷ (11, "redundant-continue") ∷ (12, "misplaced-load") ∷ (13, "no-effect")
    ∷ (14, "incompatible-type-check") ∷ (15, "duplicate-top-level-assign")
    ∷ (16, "duplicate-key") ∷ (17, "ident-as-statement")
    ∷ []

-- no other number is a code: it has no name
unfoldable pub short_name : ℕ → List ℕ
short_name c = ascii (look c short_names "")
