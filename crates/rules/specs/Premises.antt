-- Demand 3: its two premises, of a tree. Assumes nothing.
use Rattle.std.specs.Prelude.{ℕ, Bool, true, false, cond, ◌&&◌, ◌||◌, not, List, [], ◌∷◌, ◌++◌, eqb, T}
use Rattle.tree.specs.Forest.{Spot, Forest, none, node}
use Rattle.tree.specs.Nodes.{holds_name}
use Rattle.rules.specs.Names.{among}

-- the spans and names of the nodes that hold a name, in file order
abbrev pub name_spots : Forest → List Spot
name_spots none = []
name_spots (node h k s) = cond (holds_name h.kind) (h.spot ∷ []) [] ++ (name_spots k ++ name_spots s)

abbrev pub distinct : List Spot → Bool
distinct [] = true
distinct (p ∷ ps) = not (among p ps) && distinct ps

-- "no two nodes that hold a name share span and name"
abbrev pub names_apart : Forest → Bool
names_apart f = distinct (name_spots f)

-- break (1) and continue (2)
abbrev pub is_jump : ℕ → Bool
is_jump k = eqb k 1 || eqb k 2

-- Whether a child of the role r stands in a loop of its own body: the body of a for (11) does, that of a def (12) begins afresh;
-- any other stands where its parent, of the kind k, does.
abbrev pub within : ℕ → Bool → ℕ → Bool
within k inside r = cond (eqb r 1 && eqb k 11) true (cond (eqb r 1 && eqb k 12) false inside)

abbrev pub jumps_within : (ℕ → Bool) → Forest → Bool
jumps_within inside none = true
jumps_within inside (node h k s) = (not (is_jump h.kind) || inside h.role)
    && (jumps_within (within h.kind (inside h.role)) k && jumps_within inside s)

-- "every break or continue stands in a loop of its own body"
abbrev pub jumps_in_loops : Forest → Bool
jumps_in_loops f = jumps_within (λ r. false) f

pub record Premises (f : Forest) : Type 0 where
  pub unlike : T (names_apart f)
  pub looped : T (jumps_in_loops f)
