-- Two spots are the same pair of span and name exactly where they are equal.
use mathlib.Core.Path.{◌≡◌}
use mathlib.Core.Bool.{◌&&◌}
use lib.Dec.{eqb, T, eqb→eq, eqb_refl}
use Rattle.tree.specs.Forest.{Spot}
use Rattle.rules.specs.Names.{same}
use Rattle.rules.proofs.Bools.{and_left, and_right, both}

pub same_sound : (a b : Spot) → T (same a b) → a ≡ b
same_sound a b t =
    let v = eqb→eq a.value b.value (and_left (eqb a.value b.value) (eqb a.begin b.begin && eqb a.end b.end) t) in
    let r = and_right (eqb a.value b.value) (eqb a.begin b.begin && eqb a.end b.end) t in
    let x = eqb→eq a.begin b.begin (and_left (eqb a.begin b.begin) (eqb a.end b.end) r) in
    let y = eqb→eq a.end b.end (and_right (eqb a.begin b.begin) (eqb a.end b.end) r) in
    λ i. record { begin = x i; end = y i; value = v i }

pub same_exact : (a : Spot) → T (same a a)
same_exact a = both (eqb a.value a.value) (eqb a.begin a.begin && eqb a.end a.end) (eqb_refl a.value)
    (both (eqb a.begin a.begin) (eqb a.end a.end) (eqb_refl a.begin) (eqb_refl a.end))
