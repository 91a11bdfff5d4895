-- What refusal 7 asks of a whole tree, and its measures. Assumes nothing.
use Rattle.std.specs.Prelude.{ℕ, suc, ◌+◌, max, Bool, true, false, ◌&&◌, eqb}
use Rattle.tree.specs.Children.{class_of, kids_fit}
use Rattle.tree.specs.Forest.{Forest, none, node}

-- how many nodes
unfoldable pub count : Forest → ℕ
count none = 0
count (node h kids rest) = suc (count kids + count rest)

-- "depth .., the root being 1": the depth of the deepest node
unfoldable pub height : Forest → ℕ
height none = 0
height (node h kids rest) = max (suc (height kids)) (height rest)

unfoldable pub fitting : Forest → Bool
fitting none = true
fitting (node h kids rest) = kids_fit h.kind kids && (fitting kids && fitting rest)

-- "node 0 is a statement, role 0, its size the node count": it has no sibling
unfoldable pub root_fits : Forest → Bool
root_fits none = false
root_fits (node h kids none) = eqb (class_of h.kind) 1 && eqb h.role 0
root_fits (node h kids (node g below rest)) = false

-- what refusal 7 asks of a whole tree
unfoldable pub valid : Forest → Bool
valid f = root_fits f && fitting f
