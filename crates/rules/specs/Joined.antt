-- 01, "Record": "The joined call gives names, flow, incompatible, dubious, each pass's records after those of the one before,
-- with a tally of seventeen counts, one per code." Assumes nothing.
use Rattle.std.specs.Prelude.{ℕ, zero, suc, cond, List, [], ◌∷◌, ◌++◌, map, eqb, get_or, set, replicate}
pub use Rattle.base.specs.Count.{one_more}
use Rattle.tree.specs.declared.Mode.{Mode}
use Rattle.rules.specs.Record.{Rec}
use Rattle.rules.specs.Names.{names_list}
use Rattle.rules.specs.Flow.{flow_list}
use Rattle.rules.specs.Incompatible.{incompatible_list}
use Rattle.rules.specs.Dubious.{dubious_list}

unfoldable pub lint_list : Mode → List ℕ → List Rec
lint_list mode t = names_list t ++ (flow_list t ++ (incompatible_list t ++ dubious_list mode t))

-- the records of a code
abbrev pub count_of : ℕ → List Rec → ℕ
count_of c [] = 0
count_of c (r ∷ rs) = cond (eqb c r.code) (suc (count_of c rs)) (count_of c rs)

-- "seventeen counts, one per code"
abbrev pub codes : ℕ
codes = 17

-- n numbers from c on
abbrev pub numbers : ℕ → ℕ → List ℕ
numbers zero c = []
numbers (suc n) c = c ∷ numbers n (suc c)

-- "each equals its code's records": the count of code 1 stands first
abbrev pub tally_of : List Rec → List ℕ
tally_of rs = map (λ c. count_of c rs) (numbers codes 1)

abbrev pub no_tally : List ℕ
no_tally = replicate codes 0

-- "returned with one entry raised"
unfoldable pub raise : ℕ → List ℕ → List ℕ
raise zero ns = ns
raise (suc i) ns = set ns i (one_more (get_or ns i 0))

unfoldable pub raise_all : List Rec → List ℕ → List ℕ
raise_all [] ns = ns
raise_all (r ∷ rs) ns = raise_all rs (raise r.code ns)
