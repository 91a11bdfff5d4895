-- 01, "Known lists": the starred examples, each a tree file with the list of the joined call in both modes. Assumes nothing.
-- "Globals aren't given."
use Rattle.std.specs.Prelude.{Ok, Err}
use Rattle.std.specs.Prelude.{ℕ, Bool, true, false, ◌&&◌, List, [], ◌∷◌}
use Rattle.tree.specs.declared.Mode.{Mode}
use Rattle.tree.specs.declared.Mode.TheVariants.{Ordinary, Strict}
use Rattle.tree.specs.Bytes.{same_bytes}
use Rattle.tree.specs.Written.{node_bytes, value_of, file_of, file}
use Rattle.tree.specs.Judge.{judged}
use Rattle.tree.specs.Judge.{Judged}
use Rattle.rules.specs.Record.{all_words}
use Rattle.rules.specs.Joined.{lint_list}

-- ---- the files

-- (no text)
abbrev pub empty : List ℕ
empty =
    file
    (node_bytes 8 0 1 0 0 65535
    ∷ [])
    []

-- for i in xs:
--   print(a)
--   a = 1
-- (values: a, i, xs, print, 1)
abbrev pub looped : List ℕ
looped =
    file
    (node_bytes 8 0 12 0 32 65535
    ∷ node_bytes 11 0 11 0 31 65535
    ∷ node_bytes 40 5 1 4 5 1
    ∷ node_bytes 20 4 1 9 11 2
    ∷ node_bytes 8 1 8 15 31 65535
    ∷ node_bytes 5 0 4 15 23 65535
    ∷ node_bytes 23 4 3 15 23 65535
    ∷ node_bytes 20 7 1 15 20 3
    ∷ node_bytes 20 0 1 21 22 0
    ∷ node_bytes 6 0 3 26 31 65535
    ∷ node_bytes 40 5 1 26 27 0
    ∷ node_bytes 21 4 1 30 31 4
    ∷ [])
    (value_of 0 (0x61 ∷ [])
    ∷ value_of 0 (0x69 ∷ [])
    ∷ value_of 0 (0x78 ∷ 0x73 ∷ [])
    ∷ value_of 0 (0x70 ∷ 0x72 ∷ 0x69 ∷ 0x6e ∷ 0x74 ∷ [])
    ∷ value_of 3 (0x01 ∷ [])
    ∷ [])

-- def f():
--   if c:
--     x = 1
--     return
--   else:
--     return
--   use(x)
-- (values: c, f, x, use, 1)
abbrev pub both_return : List ℕ
both_return =
    file
    (node_bytes 8 0 17 0 66 65535
    ∷ node_bytes 12 0 16 0 65 65535
    ∷ node_bytes 40 6 1 4 5 1
    ∷ node_bytes 8 1 14 11 65 65535
    ∷ node_bytes 10 0 9 11 56 65535
    ∷ node_bytes 20 4 1 14 15 0
    ∷ node_bytes 8 1 5 21 37 65535
    ∷ node_bytes 6 0 3 21 26 65535
    ∷ node_bytes 40 5 1 21 22 2
    ∷ node_bytes 21 4 1 25 26 4
    ∷ node_bytes 4 0 1 31 37 65535
    ∷ node_bytes 8 2 2 50 56 65535
    ∷ node_bytes 4 0 1 50 56 65535
    ∷ node_bytes 5 0 4 59 65 65535
    ∷ node_bytes 23 4 3 59 65 65535
    ∷ node_bytes 20 7 1 59 62 3
    ∷ node_bytes 20 0 1 63 64 2
    ∷ [])
    (value_of 0 (0x63 ∷ [])
    ∷ value_of 0 (0x66 ∷ [])
    ∷ value_of 0 (0x78 ∷ [])
    ∷ value_of 0 (0x75 ∷ 0x73 ∷ 0x65 ∷ [])
    ∷ value_of 3 (0x01 ∷ [])
    ∷ [])

-- x = 1
-- x = 2
-- (values: x, 1, 2)
abbrev pub set_twice : List ℕ
set_twice =
    file
    (node_bytes 8 0 7 0 12 65535
    ∷ node_bytes 6 0 3 0 5 65535
    ∷ node_bytes 40 5 1 0 1 0
    ∷ node_bytes 21 4 1 4 5 1
    ∷ node_bytes 6 0 3 6 11 65535
    ∷ node_bytes 40 5 1 6 7 0
    ∷ node_bytes 21 4 1 10 11 2
    ∷ [])
    (value_of 0 (0x78 ∷ [])
    ∷ value_of 3 (0x01 ∷ [])
    ∷ value_of 3 (0x02 ∷ [])
    ∷ [])

-- d = {1: 0, 1.0: 0, 1: 0}
-- (values: d, 0, 1, 1.0)
abbrev pub three_ones : List ℕ
three_ones =
    file
    (node_bytes 6 0 9 0 24 65535
    ∷ node_bytes 40 5 1 0 1 0
    ∷ node_bytes 29 4 7 4 24 65535
    ∷ node_bytes 21 8 1 5 6 2
    ∷ node_bytes 21 4 1 8 9 1
    ∷ node_bytes 21 8 1 11 14 3
    ∷ node_bytes 21 4 1 16 17 1
    ∷ node_bytes 21 8 1 19 20 2
    ∷ node_bytes 21 4 1 22 23 1
    ∷ [])
    (value_of 0 (0x64 ∷ [])
    ∷ value_of 3 []
    ∷ value_of 3 (0x01 ∷ [])
    ∷ value_of 4 (0x00 ∷ 0x00 ∷ 0x00 ∷ 0x00 ∷ 0x00 ∷ 0x00 ∷ 0xf0 ∷ 0x3f ∷ [])
    ∷ [])

-- d = {10000000000: 0, 1e10: 0}
-- (values: d, 0, 10000000000, 1e10)
abbrev pub large_keys : List ℕ
large_keys =
    file
    (node_bytes 6 0 7 0 29 65535
    ∷ node_bytes 40 5 1 0 1 0
    ∷ node_bytes 29 4 5 4 29 65535
    ∷ node_bytes 21 8 1 5 16 2
    ∷ node_bytes 21 4 1 18 19 1
    ∷ node_bytes 21 8 1 21 25 3
    ∷ node_bytes 21 4 1 27 28 1
    ∷ [])
    (value_of 0 (0x64 ∷ [])
    ∷ value_of 3 []
    ∷ value_of 3 (0x02 ∷ 0x54 ∷ 0x0b ∷ 0xe4 ∷ 0x00 ∷ [])
    ∷ value_of 4 (0x00 ∷ 0x00 ∷ 0x00 ∷ 0x20 ∷ 0x5f ∷ 0xa0 ∷ 0x02 ∷ 0x42 ∷ [])
    ∷ [])

-- load("m", "x")
-- x = x
-- x = x
-- (values: x), in a version
abbrev pub loaded : ℕ → List ℕ
loaded version =
    file_of version
    (node_bytes 8 0 9 0 27 65535
    ∷ node_bytes 13 0 2 0 14 65535
    ∷ node_bytes 47 0 1 10 13 0
    ∷ node_bytes 6 0 3 15 20 65535
    ∷ node_bytes 40 5 1 15 16 0
    ∷ node_bytes 20 4 1 19 20 0
    ∷ node_bytes 6 0 3 21 26 65535
    ∷ node_bytes 40 5 1 21 22 0
    ∷ node_bytes 20 4 1 25 26 0
    ∷ [])
    (value_of 0 (0x78 ∷ [])
    ∷ [])

-- def g() -> None:
--   if c:
--     return 1
-- (values: c, g, None, 1)
abbrev pub some_return : List ℕ
some_return =
    file
    (node_bytes 8 0 8 0 38 65535
    ∷ node_bytes 12 0 7 0 37 65535
    ∷ node_bytes 40 6 1 4 5 1
    ∷ node_bytes 20 3 1 11 15 2
    ∷ node_bytes 9 1 4 19 37 65535
    ∷ node_bytes 20 4 1 22 23 0
    ∷ node_bytes 4 1 2 29 37 65535
    ∷ node_bytes 21 4 1 36 37 3
    ∷ [])
    (value_of 0 (0x63 ∷ [])
    ∷ value_of 0 (0x67 ∷ [])
    ∷ value_of 0 (0x4e ∷ 0x6f ∷ 0x6e ∷ 0x65 ∷ [])
    ∷ value_of 3 (0x01 ∷ [])
    ∷ [])

-- ---- the table

-- a file, and the records of its list in each mode, ten numbers a record
pub record Row : Type 0 where
  pub tree : List ℕ
  pub ordinarily : List ℕ
  pub strictly : List ℕ

-- the same list in both
abbrev pub in_either_mode : List ℕ → List ℕ → Row
in_either_mode t ns = record { tree = t; ordinarily = ns; strictly = ns }

-- "Empty statements root: nothing."
-- "Names: at module level, for i in xs with print(a), a = 1 inside: one 6 at the use of a."
-- "In a def, if c: x = 1, return; else: return; then use(x): names nothing for x; flow one 9 at use(x)."
-- "x = 1, x = 2 at module level: names 2 at the first x; incompatible 15 at the second."
-- "Keys 1, 1.0, 1: 16 at the first, 16 at the second." 02, §11: "In 01's case 1, 1.0, 1 both records say 2."
-- "Keys 10000000000, 1e10: nothing; strict: one 16."
-- "load x, x = x, x = x: incompatible one 15." 02, §9: "01's load example gives nothing in version 2."
-- "def g() -> None with return 1 only inside an if: 8."
abbrev pub rows : List Row
rows =
    in_either_mode empty []
    ∷ in_either_mode looped (6 ∷ 21 ∷ 22 ∷ 0 ∷ 0 ∷ 0 ∷ 0 ∷ 0 ∷ 8 ∷ 65535 ∷ [])
    ∷ in_either_mode both_return (9 ∷ 59 ∷ 65 ∷ 65535 ∷ 0 ∷ 0 ∷ 0 ∷ 0 ∷ 13 ∷ 65535 ∷ [])
    ∷ in_either_mode set_twice
    (2 ∷ 0 ∷ 1 ∷ 0 ∷ 0 ∷ 0 ∷ 0 ∷ 0 ∷ 2 ∷ 65535
    ∷ 15 ∷ 6 ∷ 7 ∷ 0 ∷ 0 ∷ 1 ∷ 0 ∷ 0 ∷ 5 ∷ 2
    ∷ [])
    ∷ in_either_mode three_ones
    (16 ∷ 5 ∷ 6 ∷ 3 ∷ 11 ∷ 14 ∷ 2 ∷ 0 ∷ 3 ∷ 5
    ∷ 16 ∷ 11 ∷ 14 ∷ 2 ∷ 19 ∷ 20 ∷ 2 ∷ 0 ∷ 5 ∷ 7
    ∷ [])
    ∷ record { tree = large_keys; ordinarily = []; strictly = 16 ∷ 5 ∷ 16 ∷ 3 ∷ 21 ∷ 25 ∷ 2 ∷ 0 ∷ 3 ∷ 5 ∷ [] }
    ∷ in_either_mode (loaded 1) (15 ∷ 21 ∷ 22 ∷ 0 ∷ 10 ∷ 13 ∷ 0 ∷ 0 ∷ 7 ∷ 2 ∷ [])
    ∷ in_either_mode (loaded 2) []
    ∷ in_either_mode some_return (8 ∷ 0 ∷ 37 ∷ 1 ∷ 29 ∷ 37 ∷ 0 ∷ 0 ∷ 1 ∷ 6 ∷ [])
    ∷ []

abbrev pub is_valid : Judged → Bool
is_valid (Ok f) = true
is_valid (Err why) = false

abbrev pub lists : Mode → List ℕ → List ℕ → Bool
lists mode t ns = same_bytes (all_words (lint_list mode t)) ns

abbrev pub rows_hold : List Row → Bool
rows_hold [] = true
rows_hold (r ∷ rs) =
    (is_valid (judged r.tree)
    && (lists Ordinary r.tree r.ordinarily
    && lists Strict r.tree r.strictly))
    && rows_hold rs
