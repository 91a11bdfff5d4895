-- What private functions promise: type checks by the value numbers of the names. Assumes nothing.
-- Nobody has to believe them: proofs/Valid shows that of a valid file these are the names of 01.
use Rattle.std.specs.Prelude.{ℕ, List, [], ◌∷◌, ◌≡◌, Bool, true, false, ◌&&◌, ◌||◌, Option, None, Some, eqb}
use Rattle.tree.specs.code.Numbers.{number_named}
use Rattle.tree.specs.Forest.{Forest, forest_of, node_spot}
use Rattle.rules.specs.Visit.{kind_among, spot_at, under, how_many}
use Rattle.rules.specs.Incompatible.{identifier, type_name}
use Rattle.incompatible.specs.declared.types.Types.{Types}

abbrev pub is : ℕ → ℕ → Bool
is x v = eqb v x

-- v is the number of one of the five types' names
abbrev pub five : Types → ℕ → Bool
five names v =
    eqb v names.boolean
    || (eqb v names.tuple || (eqb v names.string || (eqb v names.list || eqb v names.integer)))

-- "type called with one argument, left"
abbrev pub type_call : ℕ → Forest → Bool
type_call call k =
    eqb 23 (kind_among 1 k)
    && (identifier 7 (is call) (under 1 k)
    && eqb 1 (how_many 0 (under 1 k)))

-- the node of role 2 among the siblings from i up to e, where it is an identifier of one of the five types
abbrev pub TypeAt : Types → List ℕ → ℕ → ℕ → Option ℕ → Type 0
TypeAt names t i e None = identifier 2 (five names) (forest_of t i e) ≡ false
TypeAt names t i e (Some j) = (identifier 2 (five names) (forest_of t i e) ≡ true) × (spot_at 2 (forest_of t i e) ≡ node_spot t j)

-- these are the numbers of the names in the file
pub record NumbersOf (t : List ℕ) (names : Types) : Type 0 where
  pub call : names.call ≡ number_named t type_name
  pub boolean : names.boolean ≡ number_named t (0x62 ∷ 0x6f ∷ 0x6f ∷ 0x6c ∷ [])
  pub tuple : names.tuple ≡ number_named t (0x74 ∷ 0x75 ∷ 0x70 ∷ 0x6c ∷ 0x65 ∷ [])
  pub string : names.string ≡ number_named t (0x73 ∷ 0x74 ∷ 0x72 ∷ [])
  pub list : names.list ≡ number_named t (0x6c ∷ 0x69 ∷ 0x73 ∷ 0x74 ∷ [])
  pub integer : names.integer ≡ number_named t (0x69 ∷ 0x6e ∷ 0x74 ∷ [])
