-- More files with their lists, beside the starred ones (Known): every code that those don't show, the five loops that are taken twice,
-- 01's 47 bytes, both reasons of 02, §11, whole floats of every size (02, §2), both versions (02, §9), releases of a
-- host (02, §13), nodes that share span and name (02, §4), and each limit at its number and one past it.
-- Assumes nothing.
use Rattle.std.specs.Prelude.{Ok, Err}
use Rattle.std.specs.Prelude.{ℕ, zero, suc, Bool, true, ◌&&◌, List, [], ◌∷◌, ◌++◌, map, eqb, length, replicate}
use Rattle.tree.specs.Judge.{judged, number_of, place_of}
use Rattle.tree.specs.Judge.{Judged}
use Rattle.tree.specs.Written.{u16, node_bytes, value_of, joined, headed, file_of, file}
use Rattle.rules.specs.Known.{Row, in_either_mode}

-- a header, with nothing after it
abbrev pub header : ℕ → ℕ → ℕ → ℕ → List ℕ
header v n nv g = headed v n nv g []

-- a file of a version with globals given: their value numbers
abbrev pub file_given_of : ℕ → List ℕ → List (List ℕ) → List (List ℕ) → List ℕ
file_given_of v gs ns vs = headed v (length ns) (length vs) (length gs) (joined ns ++ (joined vs ++ joined (map u16 gs)))

abbrev pub file_given : List ℕ → List (List ℕ) → List (List ℕ) → List ℕ
file_given gs ns vs = file_given_of 1 gs ns vs

-- ---- the files

-- the nodes and the value of 01's example of the listing program
abbrev pub one_literal : List (List ℕ)
one_literal = node_bytes 5 0 2 0 1 65535 ∷ node_bytes 21 4 1 0 1 0 ∷ []

abbrev pub value_one : List (List ℕ)
value_one = value_of 3 (0x01 ∷ []) ∷ []

-- of examples/scripts, under their names there

-- load("rates.star", "sidereal")
-- (values: sidereal)
abbrev pub unused_load : List ℕ
unused_load =
    file
    (node_bytes 13 0 2 0 30 65535
    ∷ node_bytes 47 0 1 19 29 0
    ∷ [])
    (value_of 0 (0x73 ∷ 0x69 ∷ 0x64 ∷ 0x65 ∷ 0x72 ∷ 0x65 ∷ 0x61 ∷ 0x6c ∷ [])
    ∷ [])

-- def f(x):
--     pass
-- (values: f, x)
abbrev pub unused_argument : List ℕ
unused_argument =
    file
    (node_bytes 12 0 4 0 18 65535
    ∷ node_bytes 40 6 1 4 5 0
    ∷ node_bytes 43 0 1 6 7 1
    ∷ node_bytes 3 1 1 14 18 65535
    ∷ [])
    (value_of 0 (0x66 ∷ [])
    ∷ value_of 0 (0x78 ∷ [])
    ∷ [])

-- print(x)
-- x = 1
-- (values: x, print, 1)
abbrev pub using_unassigned : List ℕ
using_unassigned =
    file
    (node_bytes 8 0 8 0 14 65535
    ∷ node_bytes 5 0 4 0 8 65535
    ∷ node_bytes 23 4 3 0 8 65535
    ∷ node_bytes 20 7 1 0 5 1
    ∷ node_bytes 20 0 1 6 7 0
    ∷ node_bytes 6 0 3 9 14 65535
    ∷ node_bytes 40 5 1 9 10 0
    ∷ node_bytes 21 4 1 13 14 2
    ∷ [])
    (value_of 0 (0x78 ∷ [])
    ∷ value_of 0 (0x70 ∷ 0x72 ∷ 0x69 ∷ 0x6e ∷ 0x74 ∷ [])
    ∷ value_of 3 (0x01 ∷ [])
    ∷ [])

-- # globals: print
-- print(x)
-- (values: x, print)
abbrev pub using_undefined : List ℕ
using_undefined =
    file_given (1 ∷ [])
    (node_bytes 5 0 4 17 25 65535
    ∷ node_bytes 23 4 3 17 25 65535
    ∷ node_bytes 20 7 1 17 22 1
    ∷ node_bytes 20 0 1 23 24 0
    ∷ [])
    (value_of 0 (0x78 ∷ [])
    ∷ value_of 0 (0x70 ∷ 0x72 ∷ 0x69 ∷ 0x6e ∷ 0x74 ∷ [])
    ∷ [])

-- def f(c):
--     if c:
--         return
--     return 1
-- (values: c, f, 1)
abbrev pub missing_return_expression : List ℕ
missing_return_expression =
    file
    (node_bytes 12 0 9 0 47 65535
    ∷ node_bytes 40 6 1 4 5 1
    ∷ node_bytes 43 0 1 6 7 0
    ∷ node_bytes 8 1 6 14 47 65535
    ∷ node_bytes 9 0 3 14 34 65535
    ∷ node_bytes 20 4 1 17 18 0
    ∷ node_bytes 4 1 1 28 34 65535
    ∷ node_bytes 4 0 2 39 47 65535
    ∷ node_bytes 21 4 1 46 47 2
    ∷ [])
    (value_of 0 (0x63 ∷ [])
    ∷ value_of 0 (0x66 ∷ [])
    ∷ value_of 3 (0x01 ∷ [])
    ∷ [])

-- def f():
--     return
-- f()
-- (values: f)
abbrev pub redundant_return : List ℕ
redundant_return =
    file
    (node_bytes 8 0 7 0 23 65535
    ∷ node_bytes 12 0 3 0 19 65535
    ∷ node_bytes 40 6 1 4 5 0
    ∷ node_bytes 4 1 1 13 19 65535
    ∷ node_bytes 5 0 3 20 23 65535
    ∷ node_bytes 23 4 2 20 23 65535
    ∷ node_bytes 20 7 1 20 21 0
    ∷ [])
    (value_of 0 (0x66 ∷ [])
    ∷ [])

-- for i in xs:
--     continue
-- print()
-- (values: i, xs, print)
abbrev pub redundant_continue : List ℕ
redundant_continue =
    file
    (node_bytes 8 0 8 0 33 65535
    ∷ node_bytes 11 0 4 0 25 65535
    ∷ node_bytes 40 5 1 4 5 0
    ∷ node_bytes 20 4 1 9 11 1
    ∷ node_bytes 2 1 1 17 25 65535
    ∷ node_bytes 5 0 3 26 33 65535
    ∷ node_bytes 23 4 2 26 33 65535
    ∷ node_bytes 20 7 1 26 31 2
    ∷ [])
    (value_of 0 (0x69 ∷ [])
    ∷ value_of 0 (0x78 ∷ 0x73 ∷ [])
    ∷ value_of 0 (0x70 ∷ 0x72 ∷ 0x69 ∷ 0x6e ∷ 0x74 ∷ [])
    ∷ [])

-- print()
-- load("rates.star", "sidereal")
-- sidereal()
-- (values: print, sidereal)
abbrev pub misplaced_load : List ℕ
misplaced_load =
    file
    (node_bytes 8 0 9 0 49 65535
    ∷ node_bytes 5 0 3 0 7 65535
    ∷ node_bytes 23 4 2 0 7 65535
    ∷ node_bytes 20 7 1 0 5 0
    ∷ node_bytes 13 0 2 8 38 65535
    ∷ node_bytes 47 0 1 27 37 1
    ∷ node_bytes 5 0 3 39 49 65535
    ∷ node_bytes 23 4 2 39 49 65535
    ∷ node_bytes 20 7 1 39 47 1
    ∷ [])
    (value_of 0 (0x70 ∷ 0x72 ∷ 0x69 ∷ 0x6e ∷ 0x74 ∷ [])
    ∷ value_of 0 (0x73 ∷ 0x69 ∷ 0x64 ∷ 0x65 ∷ 0x72 ∷ 0x65 ∷ 0x61 ∷ 0x6c ∷ [])
    ∷ [])

-- print(type(x) == str)
-- (values: x, str, type, print)
abbrev pub incompatible_type_check : List ℕ
incompatible_type_check =
    file
    (node_bytes 5 0 8 0 21 65535
    ∷ node_bytes 23 4 7 0 21 65535
    ∷ node_bytes 20 7 1 0 5 3
    ∷ node_bytes 31 0 5 6 20 65535
    ∷ node_bytes 23 1 3 6 13 65535
    ∷ node_bytes 20 7 1 6 10 2
    ∷ node_bytes 20 0 1 11 12 0
    ∷ node_bytes 20 2 1 17 20 1
    ∷ [])
    (value_of 0 (0x78 ∷ [])
    ∷ value_of 0 (0x73 ∷ 0x74 ∷ 0x72 ∷ [])
    ∷ value_of 0 (0x74 ∷ 0x79 ∷ 0x70 ∷ 0x65 ∷ [])
    ∷ value_of 0 (0x70 ∷ 0x72 ∷ 0x69 ∷ 0x6e ∷ 0x74 ∷ [])
    ∷ [])

-- x
-- (values: x)
abbrev pub ident_as_statement : List ℕ
ident_as_statement =
    file
    (node_bytes 5 0 2 0 1 65535
    ∷ node_bytes 20 4 1 0 1 0
    ∷ [])
    (value_of 0 (0x78 ∷ [])
    ∷ [])

-- d = {x: 0, x: 0, 1: 0, 1.0: 0, 1.0: 0, 1.5: 0}
-- (values: d, x, 0, 1, 1.0, 1.5)
abbrev pub two_reasons : List ℕ
two_reasons =
    file
    (node_bytes 6 0 15 0 46 65535
    ∷ node_bytes 40 5 1 0 1 0
    ∷ node_bytes 29 4 13 4 46 65535
    ∷ node_bytes 20 8 1 5 6 1
    ∷ node_bytes 21 4 1 8 9 2
    ∷ node_bytes 20 8 1 11 12 1
    ∷ node_bytes 21 4 1 14 15 2
    ∷ node_bytes 21 8 1 17 18 3
    ∷ node_bytes 21 4 1 20 21 2
    ∷ node_bytes 21 8 1 23 26 4
    ∷ node_bytes 21 4 1 28 29 2
    ∷ node_bytes 21 8 1 31 34 4
    ∷ node_bytes 21 4 1 36 37 2
    ∷ node_bytes 21 8 1 39 42 5
    ∷ node_bytes 21 4 1 44 45 2
    ∷ [])
    (value_of 0 (0x64 ∷ [])
    ∷ value_of 0 (0x78 ∷ [])
    ∷ value_of 3 []
    ∷ value_of 3 (0x01 ∷ [])
    ∷ value_of 4 (0x00 ∷ 0x00 ∷ 0x00 ∷ 0x00 ∷ 0x00 ∷ 0x00 ∷ 0xf0 ∷ 0x3f ∷ [])
    ∷ value_of 4 (0x00 ∷ 0x00 ∷ 0x00 ∷ 0x00 ∷ 0x00 ∷ 0x00 ∷ 0xf8 ∷ 0x3f ∷ [])
    ∷ [])

abbrev pub tick_values : List (List ℕ)
tick_values =
    value_of 0 (0x64 ∷ [])
    ∷ value_of 3 []
    ∷ value_of 3 (0x20 ∷ 0x00 ∷ 0x00 ∷ 0x00 ∷ 0x00 ∷ 0x00 ∷ 0x00 ∷ [])
    ∷ value_of 4 (0x00 ∷ 0x00 ∷ 0x00 ∷ 0x00 ∷ 0x00 ∷ 0x00 ∷ 0x40 ∷ 0x43 ∷ [])
    ∷ []

-- 02, §2's own: d = {9007199254740992: 0, 9007199254740992.0: 0}
-- (values: d, 0, 9007199254740992, 9007199254740992.0)
abbrev pub ticks : List ℕ
ticks =
    file
    (node_bytes 6 0 7 0 48 65535
    ∷ node_bytes 40 5 1 0 1 0
    ∷ node_bytes 29 4 5 4 48 65535
    ∷ node_bytes 21 8 1 5 21 2
    ∷ node_bytes 21 4 1 23 24 1
    ∷ node_bytes 21 8 1 26 44 3
    ∷ node_bytes 21 4 1 46 47 1
    ∷ [])
    tick_values

-- d = {9007199254740992.0: 0, 9007199254740992: 0}
-- (values: the same)
abbrev pub ticks_turned : List ℕ
ticks_turned =
    file
    (node_bytes 6 0 7 0 48 65535
    ∷ node_bytes 40 5 1 0 1 0
    ∷ node_bytes 29 4 5 4 48 65535
    ∷ node_bytes 21 8 1 5 23 3
    ∷ node_bytes 21 4 1 25 26 1
    ∷ node_bytes 21 8 1 28 44 2
    ∷ node_bytes 21 4 1 46 47 1
    ∷ [])
    tick_values

-- d = {k: 0, ..} with spans of no text, the keys k being the integers 0, 2^53 - 1, 2^53 + 2, 2^511, 2^512 - 2^459 and 2^512 - 1, then the floats
-- 0.0, the smallest above it, 1.5, 2^53 - 1, 2^53 + 2, 2^511, 2^512 - 2^459, 2^512, 2^1023, infinity and infinity again
-- (values: d, the integers, the floats by their bytes)
abbrev pub every_size : List ℕ
every_size =
    file
    (node_bytes 6 0 37 0 200 65535
    ∷ node_bytes 40 5 1 0 1 0
    ∷ node_bytes 29 4 35 5 200 65535
    ∷ node_bytes 21 8 1 10 15 1
    ∷ node_bytes 21 4 1 17 18 1
    ∷ node_bytes 21 8 1 20 25 2
    ∷ node_bytes 21 4 1 27 28 1
    ∷ node_bytes 21 8 1 30 35 3
    ∷ node_bytes 21 4 1 37 38 1
    ∷ node_bytes 21 8 1 40 45 4
    ∷ node_bytes 21 4 1 47 48 1
    ∷ node_bytes 21 8 1 50 55 5
    ∷ node_bytes 21 4 1 57 58 1
    ∷ node_bytes 21 8 1 60 65 6
    ∷ node_bytes 21 4 1 67 68 1
    ∷ node_bytes 21 8 1 70 75 7
    ∷ node_bytes 21 4 1 77 78 1
    ∷ node_bytes 21 8 1 80 85 13
    ∷ node_bytes 21 4 1 87 88 1
    ∷ node_bytes 21 8 1 90 95 12
    ∷ node_bytes 21 4 1 97 98 1
    ∷ node_bytes 21 8 1 100 105 15
    ∷ node_bytes 21 4 1 107 108 1
    ∷ node_bytes 21 8 1 110 115 14
    ∷ node_bytes 21 4 1 117 118 1
    ∷ node_bytes 21 8 1 120 125 8
    ∷ node_bytes 21 4 1 127 128 1
    ∷ node_bytes 21 8 1 130 135 16
    ∷ node_bytes 21 4 1 137 138 1
    ∷ node_bytes 21 8 1 140 145 10
    ∷ node_bytes 21 4 1 147 148 1
    ∷ node_bytes 21 8 1 150 155 9
    ∷ node_bytes 21 4 1 157 158 1
    ∷ node_bytes 21 8 1 160 165 11
    ∷ node_bytes 21 4 1 167 168 1
    ∷ node_bytes 21 8 1 170 175 11
    ∷ node_bytes 21 4 1 177 178 1
    ∷ [])
    (value_of 0 (0x64 ∷ [])
    ∷ value_of 3 []
    ∷ value_of 3 (0x1f ∷ 0xff ∷ 0xff ∷ 0xff ∷ 0xff ∷ 0xff ∷ 0xff ∷ [])
    ∷ value_of 3 (0x20 ∷ 0x00 ∷ 0x00 ∷ 0x00 ∷ 0x00 ∷ 0x00 ∷ 0x02 ∷ [])
    ∷ value_of 3 (0x80 ∷ replicate 63 0)
    ∷ value_of 3 (0xff ∷ 0xff ∷ 0xff ∷ 0xff ∷ 0xff ∷ 0xff ∷ 0xf8 ∷ replicate 57 0)
    ∷ value_of 3 (replicate 64 0xff)
    ∷ value_of 4 (0x00 ∷ 0x00 ∷ 0x00 ∷ 0x00 ∷ 0x00 ∷ 0x00 ∷ 0x00 ∷ 0x00 ∷ [])
    ∷ value_of 4 (0x00 ∷ 0x00 ∷ 0x00 ∷ 0x00 ∷ 0x00 ∷ 0x00 ∷ 0xe0 ∷ 0x5f ∷ [])
    ∷ value_of 4 (0x00 ∷ 0x00 ∷ 0x00 ∷ 0x00 ∷ 0x00 ∷ 0x00 ∷ 0xe0 ∷ 0x7f ∷ [])
    ∷ value_of 4 (0x00 ∷ 0x00 ∷ 0x00 ∷ 0x00 ∷ 0x00 ∷ 0x00 ∷ 0xf0 ∷ 0x5f ∷ [])
    ∷ value_of 4 (0x00 ∷ 0x00 ∷ 0x00 ∷ 0x00 ∷ 0x00 ∷ 0x00 ∷ 0xf0 ∷ 0x7f ∷ [])
    ∷ value_of 4 (0x00 ∷ 0x00 ∷ 0x00 ∷ 0x00 ∷ 0x00 ∷ 0x00 ∷ 0xf8 ∷ 0x3f ∷ [])
    ∷ value_of 4 (0x01 ∷ 0x00 ∷ 0x00 ∷ 0x00 ∷ 0x00 ∷ 0x00 ∷ 0x00 ∷ 0x00 ∷ [])
    ∷ value_of 4 (0x01 ∷ 0x00 ∷ 0x00 ∷ 0x00 ∷ 0x00 ∷ 0x00 ∷ 0x40 ∷ 0x43 ∷ [])
    ∷ value_of 4 (0xff ∷ 0xff ∷ 0xff ∷ 0xff ∷ 0xff ∷ 0xff ∷ 0x3f ∷ 0x43 ∷ [])
    ∷ value_of 4 (0xff ∷ 0xff ∷ 0xff ∷ 0xff ∷ 0xff ∷ 0xff ∷ 0xef ∷ 0x5f ∷ [])
    ∷ [])

-- for i in xs:
--   for j in xs:
--     for k in xs:
--       for l in xs:
--         def f():
--           for _ in xs:
--             print(a)
--             a = 1
-- (values: _, a, f, i, j, k, l, xs, print, 1)
abbrev pub five_loops : List ℕ
five_loops =
    file
    (node_bytes 11 0 25 0 142 65535
    ∷ node_bytes 40 5 1 4 5 3
    ∷ node_bytes 20 4 1 9 11 7
    ∷ node_bytes 11 1 22 15 142 65535
    ∷ node_bytes 40 5 1 19 20 4
    ∷ node_bytes 20 4 1 24 26 7
    ∷ node_bytes 11 1 19 32 142 65535
    ∷ node_bytes 40 5 1 36 37 5
    ∷ node_bytes 20 4 1 41 43 7
    ∷ node_bytes 11 1 16 51 142 65535
    ∷ node_bytes 40 5 1 55 56 6
    ∷ node_bytes 20 4 1 60 62 7
    ∷ node_bytes 12 1 13 72 142 65535
    ∷ node_bytes 40 6 1 76 77 2
    ∷ node_bytes 11 1 11 91 142 65535
    ∷ node_bytes 40 5 1 95 96 0
    ∷ node_bytes 20 4 1 100 102 7
    ∷ node_bytes 8 1 8 116 142 65535
    ∷ node_bytes 5 0 4 116 124 65535
    ∷ node_bytes 23 4 3 116 124 65535
    ∷ node_bytes 20 7 1 116 121 8
    ∷ node_bytes 20 0 1 122 123 1
    ∷ node_bytes 6 0 3 137 142 65535
    ∷ node_bytes 40 5 1 137 138 1
    ∷ node_bytes 21 4 1 141 142 9
    ∷ [])
    (value_of 0 (0x5f ∷ [])
    ∷ value_of 0 (0x61 ∷ [])
    ∷ value_of 0 (0x66 ∷ [])
    ∷ value_of 0 (0x69 ∷ [])
    ∷ value_of 0 (0x6a ∷ [])
    ∷ value_of 0 (0x6b ∷ [])
    ∷ value_of 0 (0x6c ∷ [])
    ∷ value_of 0 (0x78 ∷ 0x73 ∷ [])
    ∷ value_of 0 (0x70 ∷ 0x72 ∷ 0x69 ∷ 0x6e ∷ 0x74 ∷ [])
    ∷ value_of 3 (0x01 ∷ [])
    ∷ [])

-- for i in xs:
--   for j in xs:
--     for k in xs:
--       for l in xs:
--         for m in xs:
--           def f():
--             for _ in xs:
--               print(a)
--               a = 1
-- (values: _, a, f, i, j, k, l, m, xs, print, 1)
abbrev pub six_loops : List ℕ
six_loops =
    file
    (node_bytes 11 0 28 0 171 65535
    ∷ node_bytes 40 5 1 4 5 3
    ∷ node_bytes 20 4 1 9 11 8
    ∷ node_bytes 11 1 25 15 171 65535
    ∷ node_bytes 40 5 1 19 20 4
    ∷ node_bytes 20 4 1 24 26 8
    ∷ node_bytes 11 1 22 32 171 65535
    ∷ node_bytes 40 5 1 36 37 5
    ∷ node_bytes 20 4 1 41 43 8
    ∷ node_bytes 11 1 19 51 171 65535
    ∷ node_bytes 40 5 1 55 56 6
    ∷ node_bytes 20 4 1 60 62 8
    ∷ node_bytes 11 1 16 72 171 65535
    ∷ node_bytes 40 5 1 76 77 7
    ∷ node_bytes 20 4 1 81 83 8
    ∷ node_bytes 12 1 13 95 171 65535
    ∷ node_bytes 40 6 1 99 100 2
    ∷ node_bytes 11 1 11 116 171 65535
    ∷ node_bytes 40 5 1 120 121 0
    ∷ node_bytes 20 4 1 125 127 8
    ∷ node_bytes 8 1 8 143 171 65535
    ∷ node_bytes 5 0 4 143 151 65535
    ∷ node_bytes 23 4 3 143 151 65535
    ∷ node_bytes 20 7 1 143 148 9
    ∷ node_bytes 20 0 1 149 150 1
    ∷ node_bytes 6 0 3 166 171 65535
    ∷ node_bytes 40 5 1 166 167 1
    ∷ node_bytes 21 4 1 170 171 10
    ∷ [])
    (value_of 0 (0x5f ∷ [])
    ∷ value_of 0 (0x61 ∷ [])
    ∷ value_of 0 (0x66 ∷ [])
    ∷ value_of 0 (0x69 ∷ [])
    ∷ value_of 0 (0x6a ∷ [])
    ∷ value_of 0 (0x6b ∷ [])
    ∷ value_of 0 (0x6c ∷ [])
    ∷ value_of 0 (0x6d ∷ [])
    ∷ value_of 0 (0x78 ∷ 0x73 ∷ [])
    ∷ value_of 0 (0x70 ∷ 0x72 ∷ 0x69 ∷ 0x6e ∷ 0x74 ∷ [])
    ∷ value_of 3 (0x01 ∷ [])
    ∷ [])

-- Three files, each in either version (02, §9).

-- load("rates.star", "sidereal")
--
-- sidereal = sidereal
-- solar = 15
-- solar = solar
-- sidereal = sidereal
-- (values: solar, sidereal, 15); of examples/scripts, after a first line "# dialect: 2"
abbrev pub re_export : ℕ → List ℕ
re_export version =
    file_of version
    (node_bytes 8 0 15 13 109 65535
    ∷ node_bytes 13 0 2 13 43 65535
    ∷ node_bytes 47 0 1 32 42 1
    ∷ node_bytes 6 0 3 45 64 65535
    ∷ node_bytes 40 5 1 45 53 1
    ∷ node_bytes 20 4 1 56 64 1
    ∷ node_bytes 6 0 3 65 75 65535
    ∷ node_bytes 40 5 1 65 70 0
    ∷ node_bytes 21 4 1 73 75 2
    ∷ node_bytes 6 0 3 76 89 65535
    ∷ node_bytes 40 5 1 76 81 0
    ∷ node_bytes 20 4 1 84 89 0
    ∷ node_bytes 6 0 3 90 109 65535
    ∷ node_bytes 40 5 1 90 98 1
    ∷ node_bytes 20 4 1 101 109 1
    ∷ [])
    (value_of 0 (0x73 ∷ 0x6f ∷ 0x6c ∷ 0x61 ∷ 0x72 ∷ [])
    ∷ value_of 0 (0x73 ∷ 0x69 ∷ 0x64 ∷ 0x65 ∷ 0x72 ∷ 0x65 ∷ 0x61 ∷ 0x6c ∷ [])
    ∷ value_of 3 (0x0f ∷ [])
    ∷ [])

-- load("m", "x")
-- x = 1
-- x = x
-- x = x
-- (values: x, 1)
abbrev pub set_between : ℕ → List ℕ
set_between version =
    file_of version
    (node_bytes 8 0 12 0 32 65535
    ∷ node_bytes 13 0 2 0 14 65535
    ∷ node_bytes 47 0 1 10 13 0
    ∷ node_bytes 6 0 3 15 20 65535
    ∷ node_bytes 40 5 1 15 16 0
    ∷ node_bytes 21 4 1 19 20 1
    ∷ node_bytes 6 0 3 21 26 65535
    ∷ node_bytes 40 5 1 21 22 0
    ∷ node_bytes 20 4 1 25 26 0
    ∷ node_bytes 6 0 3 27 32 65535
    ∷ node_bytes 40 5 1 27 28 0
    ∷ node_bytes 20 4 1 31 32 0
    ∷ [])
    (value_of 0 (0x78 ∷ [])
    ∷ value_of 3 (0x01 ∷ [])
    ∷ [])

-- x = x
-- load("m", "x")
-- x = x
-- (values: x)
abbrev pub loaded_later : ℕ → List ℕ
loaded_later version =
    file_of version
    (node_bytes 8 0 9 0 26 65535
    ∷ node_bytes 6 0 3 0 5 65535
    ∷ node_bytes 40 5 1 0 1 0
    ∷ node_bytes 20 4 1 4 5 0
    ∷ node_bytes 13 0 2 6 20 65535
    ∷ node_bytes 47 0 1 16 19 0
    ∷ node_bytes 6 0 3 21 26 65535
    ∷ node_bytes 40 5 1 21 22 0
    ∷ node_bytes 20 4 1 25 26 0
    ∷ [])
    (value_of 0 (0x78 ∷ [])
    ∷ [])

-- One script in either version, with the globals of several releases of its host, and with none given (02, §13).

-- for night in nights:
--     log(seeing)
--     seeing = night
-- log(rate)
-- rate = drift
-- (values: log, rate, drift, night, nights, seeing)
abbrev pub nightly : List (List ℕ)
nightly =
    node_bytes 8 0 19 0 78 65535
    ∷ node_bytes 11 0 11 0 55 65535
    ∷ node_bytes 40 5 1 4 9 3
    ∷ node_bytes 20 4 1 13 19 4
    ∷ node_bytes 8 1 8 25 55 65535
    ∷ node_bytes 5 0 4 25 36 65535
    ∷ node_bytes 23 4 3 25 36 65535
    ∷ node_bytes 20 7 1 25 28 0
    ∷ node_bytes 20 0 1 29 35 5
    ∷ node_bytes 6 0 3 41 55 65535
    ∷ node_bytes 40 5 1 41 47 5
    ∷ node_bytes 20 4 1 50 55 3
    ∷ node_bytes 5 0 4 56 65 65535
    ∷ node_bytes 23 4 3 56 65 65535
    ∷ node_bytes 20 7 1 56 59 0
    ∷ node_bytes 20 0 1 60 64 1
    ∷ node_bytes 6 0 3 66 78 65535
    ∷ node_bytes 40 5 1 66 70 1
    ∷ node_bytes 20 4 1 73 78 2
    ∷ []

abbrev pub nightly_values : List (List ℕ)
nightly_values =
    value_of 0 (0x6c ∷ 0x6f ∷ 0x67 ∷ [])
    ∷ value_of 0 (0x72 ∷ 0x61 ∷ 0x74 ∷ 0x65 ∷ [])
    ∷ value_of 0 (0x64 ∷ 0x72 ∷ 0x69 ∷ 0x66 ∷ 0x74 ∷ [])
    ∷ value_of 0 (0x6e ∷ 0x69 ∷ 0x67 ∷ 0x68 ∷ 0x74 ∷ [])
    ∷ value_of 0 (0x6e ∷ 0x69 ∷ 0x67 ∷ 0x68 ∷ 0x74 ∷ 0x73 ∷ [])
    ∷ value_of 0 (0x73 ∷ 0x65 ∷ 0x65 ∷ 0x69 ∷ 0x6e ∷ 0x67 ∷ [])
    ∷ []

abbrev pub not_released : ℕ → List ℕ
not_released version = file_of version nightly nightly_values

-- no globals at all
abbrev pub release_0 : ℕ → List ℕ
release_0 version = file_given_of version [] nightly nightly_values

-- examples/scripts/release-1, whose last line is "# globals: log nights"
abbrev pub release_1 : ℕ → List ℕ
release_1 version = file_given_of version (0 ∷ 4 ∷ []) nightly nightly_values

-- examples/scripts/release-2, whose last line is "# globals: drift log nights rate seeing"
abbrev pub release_2 : ℕ → List ℕ
release_2 version = file_given_of version (0 ∷ 1 ∷ 2 ∷ 4 ∷ 5 ∷ []) nightly nightly_values

-- Three files in which nodes share span and name, and the walk's order is not the file's.

-- x = x: the target (node 1) and the value (node 2), which is met first, share their span
-- (values: x)
abbrev pub value_first : List ℕ
value_first =
    file
    (node_bytes 6 0 3 0 1 65535
    ∷ node_bytes 40 5 1 0 1 0
    ∷ node_bytes 20 4 1 0 1 0
    ∷ [])
    (value_of 0 (0x78 ∷ [])
    ∷ [])

-- def f(x=x):
--     pass
-- the parameter (node 2) and its default (node 3), which is met first, share their span
-- (values: f, x)
abbrev pub default_first : List ℕ
default_first =
    file
    (node_bytes 12 0 5 0 18 65535
    ∷ node_bytes 40 6 1 4 5 0
    ∷ node_bytes 43 0 2 6 7 1
    ∷ node_bytes 20 0 1 6 7 1
    ∷ node_bytes 3 1 1 14 18 65535
    ∷ [])
    (value_of 0 (0x66 ∷ [])
    ∷ value_of 0 (0x78 ∷ [])
    ∷ [])

-- [lambda x: 0 for x in xs]: the result's parameter (node 3) and the target (node 6), which is met first, share their span
-- (values: x, xs, 0)
abbrev pub result_last : List ℕ
result_last =
    file
    (node_bytes 5 0 8 0 25 65535
    ∷ node_bytes 25 4 7 0 25 65535
    ∷ node_bytes 24 4 3 1 12 65535
    ∷ node_bytes 43 0 1 8 9 0
    ∷ node_bytes 21 1 1 11 12 2
    ∷ node_bytes 45 0 3 13 24 65535
    ∷ node_bytes 40 5 1 8 9 0
    ∷ node_bytes 20 4 1 22 24 1
    ∷ [])
    (value_of 0 (0x78 ∷ [])
    ∷ value_of 0 (0x78 ∷ 0x73 ∷ [])
    ∷ value_of 3 []
    ∷ [])

-- ---- the lists

-- 02, §13: a release quiets the 5s of the names that it adds, and neither 6 nor 4, though the second knows their names too; where no globals
-- are given there is no 5
abbrev pub nightly_rows : ℕ → List Row
nightly_rows version =
    in_either_mode (not_released version)
    (6 ∷ 29 ∷ 35 ∷ 5 ∷ 0 ∷ 0 ∷ 0 ∷ 0 ∷ 8 ∷ 65535
    ∷ 4 ∷ 60 ∷ 64 ∷ 1 ∷ 0 ∷ 0 ∷ 0 ∷ 0 ∷ 15 ∷ 65535
    ∷ [])
    ∷ in_either_mode (release_0 version)
    (6 ∷ 29 ∷ 35 ∷ 5 ∷ 0 ∷ 0 ∷ 0 ∷ 0 ∷ 8 ∷ 65535
    ∷ 4 ∷ 60 ∷ 64 ∷ 1 ∷ 0 ∷ 0 ∷ 0 ∷ 0 ∷ 15 ∷ 65535
    ∷ 5 ∷ 13 ∷ 19 ∷ 4 ∷ 0 ∷ 0 ∷ 0 ∷ 0 ∷ 3 ∷ 65535
    ∷ 5 ∷ 25 ∷ 28 ∷ 0 ∷ 0 ∷ 0 ∷ 0 ∷ 0 ∷ 7 ∷ 65535
    ∷ 5 ∷ 56 ∷ 59 ∷ 0 ∷ 0 ∷ 0 ∷ 0 ∷ 0 ∷ 14 ∷ 65535
    ∷ 5 ∷ 73 ∷ 78 ∷ 2 ∷ 0 ∷ 0 ∷ 0 ∷ 0 ∷ 18 ∷ 65535
    ∷ [])
    ∷ in_either_mode (release_1 version)
    (6 ∷ 29 ∷ 35 ∷ 5 ∷ 0 ∷ 0 ∷ 0 ∷ 0 ∷ 8 ∷ 65535
    ∷ 4 ∷ 60 ∷ 64 ∷ 1 ∷ 0 ∷ 0 ∷ 0 ∷ 0 ∷ 15 ∷ 65535
    ∷ 5 ∷ 73 ∷ 78 ∷ 2 ∷ 0 ∷ 0 ∷ 0 ∷ 0 ∷ 18 ∷ 65535
    ∷ [])
    ∷ in_either_mode (release_2 version)
    (6 ∷ 29 ∷ 35 ∷ 5 ∷ 0 ∷ 0 ∷ 0 ∷ 0 ∷ 8 ∷ 65535
    ∷ 4 ∷ 60 ∷ 64 ∷ 1 ∷ 0 ∷ 0 ∷ 0 ∷ 0 ∷ 15 ∷ 65535
    ∷ [])
    ∷ []

-- "13 0 1 65535 0 0 0 0", and 02, §4: "01's example line ends in the literal's node 1 and 65535"; codes 1, 3, 4, 5, 7, 10, 11, 12, 14 and
-- 17, one each; 02, §11: the same form (1), the same number in two forms (2), and then 1 again, since it is the previous equal key that
-- the later one is held against; 02, §2: strict, a whole float equals its integer at every size, an infinity only itself;
-- "twice while the count of enclosing for statements (itself counted, through defs too) is at most 5, once from 6": the for in the def is the
-- fifth, and its second round finds a set in the first (6); it is the sixth, and its one round finds no a (4);
-- 02, §9: "x = x, where x was first defined by a load, is then free each time": of a name that an assign defined first it isn't, in either
-- version; of a loaded name that is set in between it is; and where a load comes after x = x neither the load nor what follows is free;
-- 02, §4: "the one that the names walk meets first", where the file's first is node 1, 2 and 3; 02, §13, in both
-- versions
abbrev pub examples : List Row
examples =
    in_either_mode (file one_literal value_one) (13 ∷ 0 ∷ 1 ∷ 65535 ∷ 0 ∷ 0 ∷ 0 ∷ 0 ∷ 1 ∷ 65535 ∷ [])
    ∷ in_either_mode (file_given [] one_literal value_one) (13 ∷ 0 ∷ 1 ∷ 65535 ∷ 0 ∷ 0 ∷ 0 ∷ 0 ∷ 1 ∷ 65535 ∷ [])
    ∷ in_either_mode unused_load (1 ∷ 19 ∷ 29 ∷ 0 ∷ 0 ∷ 0 ∷ 0 ∷ 0 ∷ 1 ∷ 65535 ∷ [])
    ∷ in_either_mode unused_argument (3 ∷ 6 ∷ 7 ∷ 1 ∷ 0 ∷ 0 ∷ 0 ∷ 0 ∷ 2 ∷ 65535 ∷ [])
    ∷ in_either_mode using_unassigned (4 ∷ 6 ∷ 7 ∷ 0 ∷ 0 ∷ 0 ∷ 0 ∷ 0 ∷ 4 ∷ 65535 ∷ [])
    ∷ in_either_mode using_undefined (5 ∷ 23 ∷ 24 ∷ 0 ∷ 0 ∷ 0 ∷ 0 ∷ 0 ∷ 3 ∷ 65535 ∷ [])
    ∷ in_either_mode missing_return_expression (7 ∷ 28 ∷ 34 ∷ 1 ∷ 0 ∷ 47 ∷ 39 ∷ 47 ∷ 6 ∷ 0 ∷ [])
    ∷ in_either_mode redundant_return (10 ∷ 13 ∷ 19 ∷ 65535 ∷ 0 ∷ 0 ∷ 0 ∷ 0 ∷ 3 ∷ 65535 ∷ [])
    ∷ in_either_mode redundant_continue (11 ∷ 17 ∷ 25 ∷ 65535 ∷ 0 ∷ 0 ∷ 0 ∷ 0 ∷ 4 ∷ 65535 ∷ [])
    ∷ in_either_mode misplaced_load (12 ∷ 8 ∷ 38 ∷ 65535 ∷ 0 ∷ 0 ∷ 0 ∷ 0 ∷ 4 ∷ 65535 ∷ [])
    ∷ in_either_mode incompatible_type_check (14 ∷ 6 ∷ 20 ∷ 1 ∷ 0 ∷ 0 ∷ 0 ∷ 0 ∷ 3 ∷ 65535 ∷ [])
    ∷ in_either_mode ident_as_statement (17 ∷ 0 ∷ 1 ∷ 0 ∷ 0 ∷ 0 ∷ 0 ∷ 0 ∷ 1 ∷ 65535 ∷ [])
    ∷ in_either_mode two_reasons
    (16 ∷ 5 ∷ 6 ∷ 1 ∷ 11 ∷ 12 ∷ 1 ∷ 0 ∷ 3 ∷ 5
    ∷ 16 ∷ 17 ∷ 18 ∷ 4 ∷ 23 ∷ 26 ∷ 2 ∷ 0 ∷ 7 ∷ 9
    ∷ 16 ∷ 23 ∷ 26 ∷ 4 ∷ 31 ∷ 34 ∷ 1 ∷ 0 ∷ 9 ∷ 11
    ∷ [])
    ∷ record { tree = ticks; ordinarily = []; strictly = 16 ∷ 5 ∷ 21 ∷ 3 ∷ 26 ∷ 44 ∷ 2 ∷ 0 ∷ 3 ∷ 5 ∷ [] }
    ∷ record { tree = ticks_turned; ordinarily = []; strictly = 16 ∷ 5 ∷ 23 ∷ 2 ∷ 28 ∷ 44 ∷ 2 ∷ 0 ∷ 3 ∷ 5 ∷ [] }
    ∷ record {
      tree = every_size;
      ordinarily =
          (16 ∷ 10 ∷ 15 ∷ 7 ∷ 70 ∷ 75 ∷ 2 ∷ 0 ∷ 3 ∷ 15
          ∷ 16 ∷ 160 ∷ 165 ∷ 11 ∷ 170 ∷ 175 ∷ 1 ∷ 0 ∷ 33 ∷ 35
          ∷ []);
      strictly =
          (16 ∷ 10 ∷ 15 ∷ 7 ∷ 70 ∷ 75 ∷ 2 ∷ 0 ∷ 3 ∷ 15
          ∷ 16 ∷ 20 ∷ 25 ∷ 15 ∷ 100 ∷ 105 ∷ 2 ∷ 0 ∷ 5 ∷ 21
          ∷ 16 ∷ 30 ∷ 35 ∷ 14 ∷ 110 ∷ 115 ∷ 2 ∷ 0 ∷ 7 ∷ 23
          ∷ 16 ∷ 40 ∷ 45 ∷ 8 ∷ 120 ∷ 125 ∷ 2 ∷ 0 ∷ 9 ∷ 25
          ∷ 16 ∷ 50 ∷ 55 ∷ 16 ∷ 130 ∷ 135 ∷ 2 ∷ 0 ∷ 11 ∷ 27
          ∷ 16 ∷ 160 ∷ 165 ∷ 11 ∷ 170 ∷ 175 ∷ 1 ∷ 0 ∷ 33 ∷ 35
          ∷ []);
    }
    ∷ in_either_mode five_loops (6 ∷ 122 ∷ 123 ∷ 1 ∷ 0 ∷ 0 ∷ 0 ∷ 0 ∷ 21 ∷ 65535 ∷ [])
    ∷ in_either_mode six_loops (4 ∷ 149 ∷ 150 ∷ 1 ∷ 0 ∷ 0 ∷ 0 ∷ 0 ∷ 24 ∷ 65535 ∷ [])
    ∷ in_either_mode (re_export 1)
    (15 ∷ 76 ∷ 81 ∷ 0 ∷ 65 ∷ 70 ∷ 0 ∷ 0 ∷ 10 ∷ 7
    ∷ 15 ∷ 90 ∷ 98 ∷ 1 ∷ 32 ∷ 42 ∷ 0 ∷ 0 ∷ 13 ∷ 2
    ∷ [])
    ∷ in_either_mode (re_export 2) (15 ∷ 76 ∷ 81 ∷ 0 ∷ 65 ∷ 70 ∷ 0 ∷ 0 ∷ 10 ∷ 7 ∷ [])
    ∷ in_either_mode (set_between 1)
    (1 ∷ 10 ∷ 13 ∷ 0 ∷ 0 ∷ 0 ∷ 0 ∷ 0 ∷ 2 ∷ 65535
    ∷ 15 ∷ 15 ∷ 16 ∷ 0 ∷ 10 ∷ 13 ∷ 0 ∷ 0 ∷ 4 ∷ 2
    ∷ 15 ∷ 27 ∷ 28 ∷ 0 ∷ 10 ∷ 13 ∷ 0 ∷ 0 ∷ 10 ∷ 2
    ∷ [])
    ∷ in_either_mode (set_between 2)
    (1 ∷ 10 ∷ 13 ∷ 0 ∷ 0 ∷ 0 ∷ 0 ∷ 0 ∷ 2 ∷ 65535
    ∷ 15 ∷ 15 ∷ 16 ∷ 0 ∷ 10 ∷ 13 ∷ 0 ∷ 0 ∷ 4 ∷ 2
    ∷ [])
    ∷ in_either_mode (loaded_later 1)
    (4 ∷ 4 ∷ 5 ∷ 0 ∷ 0 ∷ 0 ∷ 0 ∷ 0 ∷ 3 ∷ 65535
    ∷ 12 ∷ 6 ∷ 20 ∷ 65535 ∷ 0 ∷ 0 ∷ 0 ∷ 0 ∷ 4 ∷ 65535
    ∷ 15 ∷ 16 ∷ 19 ∷ 0 ∷ 0 ∷ 1 ∷ 0 ∷ 0 ∷ 5 ∷ 2
    ∷ 15 ∷ 21 ∷ 22 ∷ 0 ∷ 0 ∷ 1 ∷ 0 ∷ 0 ∷ 7 ∷ 2
    ∷ [])
    ∷ in_either_mode (loaded_later 2)
    (4 ∷ 4 ∷ 5 ∷ 0 ∷ 0 ∷ 0 ∷ 0 ∷ 0 ∷ 3 ∷ 65535
    ∷ 12 ∷ 6 ∷ 20 ∷ 65535 ∷ 0 ∷ 0 ∷ 0 ∷ 0 ∷ 4 ∷ 65535
    ∷ 15 ∷ 16 ∷ 19 ∷ 0 ∷ 0 ∷ 1 ∷ 0 ∷ 0 ∷ 5 ∷ 2
    ∷ 15 ∷ 21 ∷ 22 ∷ 0 ∷ 0 ∷ 1 ∷ 0 ∷ 0 ∷ 7 ∷ 2
    ∷ [])
    ∷ in_either_mode value_first (4 ∷ 0 ∷ 1 ∷ 0 ∷ 0 ∷ 0 ∷ 0 ∷ 0 ∷ 2 ∷ 65535 ∷ [])
    ∷ in_either_mode default_first (3 ∷ 6 ∷ 7 ∷ 1 ∷ 0 ∷ 0 ∷ 0 ∷ 0 ∷ 3 ∷ 65535 ∷ [])
    ∷ in_either_mode result_last (3 ∷ 8 ∷ 9 ∷ 0 ∷ 0 ∷ 0 ∷ 0 ∷ 0 ∷ 6 ∷ 65535 ∷ [])
    ∷ (nightly_rows 1 ++ nightly_rows 2)

-- ---- the limits

-- bytes with 01's number and place of their refusal, 0 and 0 where the file is valid
pub record Border : Type 0 where
  pub bytes : List ℕ
  pub number : ℕ
  pub place : ℕ

abbrev pub refuses : ℕ → ℕ → List ℕ → Border
refuses n p t = record { bytes = t; number = n; place = p }

abbrev pub accepts : List ℕ → Border
accepts t = refuses 0 0 t

-- statements in statements, n of them
abbrev pub nested : ℕ → List (List ℕ)
nested zero = []
nested (suc n) = node_bytes 8 0 (suc n) 0 0 65535 ∷ nested n

-- a file of one pass and one value
abbrev pub of_value : List ℕ → List ℕ
of_value v = file (node_bytes 3 0 1 0 0 65535 ∷ []) (v ∷ [])

-- Under 11 bytes: 1. "versions other than 1 and 2" (02, §9): 2. "nodes 0 or over 1,024; values over 512; globals over 512 and not 65535": 3;
-- at their numbers these headers, with nothing after them, are refused for their sections only. A value of 255 bytes and of 256, an integer
-- of 64 and of 65, a depth of 48 and of 49; a file of version 2.
abbrev pub borders : List Border
borders =
    refuses 1 0 (83 ∷ 76 ∷ 84 ∷ 1 ∷ 0 ∷ 1 ∷ 0 ∷ 0 ∷ 0 ∷ 0 ∷ [])
    ∷ refuses 2 0 (header 0 1 0 0)
    ∷ refuses 2 0 (header 3 1 0 0)
    ∷ refuses 2 0 (header 258 1 0 0)
    ∷ refuses 2 0 (header 65535 1 0 0)
    ∷ refuses 3 0 (header 1 0 0 0)
    ∷ refuses 3 0 (header 2 0 0 0)
    ∷ refuses 4 0 (header 1 1024 0 0)
    ∷ refuses 3 0 (header 1 1025 0 0)
    ∷ refuses 4 0 (header 1 1 512 0)
    ∷ refuses 3 0 (header 1 1 513 0)
    ∷ refuses 4 0 (header 1 1 0 512)
    ∷ refuses 3 0 (header 1 1 0 513)
    ∷ refuses 3 0 (header 1 1 0 65534)
    ∷ refuses 4 0 (header 1 1 0 65535)
    ∷ accepts (of_value (value_of 1 (replicate 255 115)))
    ∷ refuses 5 0 (of_value (value_of 1 (replicate 256 115)))
    ∷ accepts (of_value (value_of 3 (replicate 64 255)))
    ∷ refuses 5 0 (of_value (value_of 3 (replicate 65 255)))
    ∷ accepts (file (nested 48) [])
    ∷ refuses 8 48 (file (nested 49) [])
    ∷ accepts (file_of 2 (nested 1) [])
    ∷ []

abbrev pub says : Judged → ℕ → ℕ → Bool
says (Ok f) n p = eqb n 0 && eqb p 0
says (Err why) n p = eqb n (number_of why) && eqb p (place_of why)

abbrev pub keep_to : List Border → Bool
keep_to [] = true
keep_to (l ∷ ls) = says (judged l.bytes) l.number l.place && keep_to ls
