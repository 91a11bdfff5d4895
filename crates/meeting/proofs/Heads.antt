-- Every node that the walk of a file meets is one of the file's: its span and name are those of its number. Assumes nothing.
use Prim.Native.Nat.{ℕ}
use mathlib.Core.Path.{◌≡◌, sym, ap}
use mathlib.Core.List.{List}
use Rattle.tree.specs.Forest.{Head, node_spot, node_head, forest_of}
use Rattle.tree.specs.code.Part.{Part}
use Rattle.rules.specs.Record.{Each}
use Rattle.rules.specs.Order.{of_role}
use Rattle.rules.proofs.Numbered.{Own, met_own}
use Rattle.meeting.specs.Asked.{never, ask_of, asked_as, asked}
use Rattle.rules.proofs.Each.{each_more}

abbrev pub Owns : List ℕ → List Head → Type 0
Owns t hs = Each (λ h. h.spot ≡ node_spot t h.number) hs

pub part_asked : {t : List ℕ} {n : ℕ} → Part t 0 n → Owns t (asked 0 (forest_of t 0 n))
unfolding asked asked_as ask_of node_head
part_asked {t} {n} p =
    each_more (Own t n) (λ h. h.spot ≡ node_spot t h.number) (λ h o. sym (ap (λ (x : Head). x.spot) o.0))
    (asked 0 (forest_of t 0 n)) (met_own p never (of_role 0))
