-- From an empty scope through the whole tree: the warnings that stand in the words. Assumes nothing.
use Prim.Native.Nat.{ℕ, zero, suc, ◌≤◌}
use native.Mathlib.Omega.{arith}
use mathlib.Core.Path.{◌≡◌, refl, ap, ◌∙◌}
use mathlib.Core.List.{List, []}
use lib.ListN.{length, get_or, replicate, length-replicate}
use Rattle.tree.specs.Table.{table_of, underscored, globals_of}
use Rattle.tree.specs.code.Numbers.{number_named}
use Rattle.rules.specs.Order.{Cmd, of_role, fail_name}
use Rattle.rules.specs.code.Marks.{Every, tour, start, names_tour}
use Rattle.scope.specs.State.{no_entry, room_of, rooms_of, warning_in, out_of, house_of, Fits, Inside}
use Rattle.scope.specs.Words.{new_scope, closed_of}
use Rattle.scope.specs.Does.{RoomFor}
use Rattle.names.specs.Walk.{Goes, visit_of, module_of}
use Rattle.scope.specs.declared.Scope.{Scope}
use Rattle.scope.proofs.Lists.{places_none}
use Rattle.scope.proofs.Kept.{inside_kept}
use Rattle.names.proofs.Going.{every_end}
use Rattle.names.proofs.Methods.{Methods}
use Rattle.rules.specs.Outcome.{work_words}

blank : (n k : ℕ) → get_or (replicate n no_entry) k no_entry ≡ no_entry
blank zero k = refl
blank (suc n) zero = refl
blank (suc n) (suc k) = blank n k

pub new_fits : {w : List ℕ} {s : Scope} → work_words ≤ length w → s ≡ new_scope → Fits w s
unfolding new_scope
new_fits h e = rw e (
    record {
      words = h;
      wide = length-replicate 1024 no_entry;
      first = omega arith;
      settings = omega arith;
      cant_from = omega arith;
      cant = omega arith;
      cants = omega arith;
      loose_from = omega arith;
      loose = omega arith;
      looses = omega arith;
      warnings = omega arith;
      clean = λ k i. blank 1024 k;
      own = λ k i j. omega arith;
    })

pub new_inside : (w : List ℕ) (s : Scope) → s ≡ new_scope → Inside w s []
unfolding new_scope Inside
new_inside w s e = rw e (refl, refl, refl)

pub new_house : (t w : List ℕ) (s : Scope) → s ≡ new_scope → house_of t w s [] ≡ start
unfolding new_scope house_of room_of rooms_of out_of
new_house t w s e = rw e (rw (places_none (warning_in t w) 0 0 (omega arith), places_none _ 0 0 (omega arith), places_none _ 5120 5120 (omega arith), places_none _ 6144 6144 (omega arith)))

-- the whole walk: what the contract of walked says
module _ {t : List ℕ} (ms : Methods t) {c : Cmd} {w v : List ℕ} {s z : Scope} (new : s ≡ new_scope) (g : Goes t 0 c w s v z)
    (every : Every (underscored (table_of t)) RoomFor 0 c start) where
  walked_house : house_of t v z [] ≡ tour (underscored (table_of t)) 0 c start
  walked_house =
      let q = new_house t w s new in
      g.does.house [] (new_inside w s new) (rw q every) ∙ ap (tour (underscored (table_of t)) 0 c) q

  pub walked_out : length (names_tour (underscored (table_of t)) (globals_of t) c) ≤ 1024 → {x : List ℕ} {n : ℕ} → n ≡ (closed_of t v z).count → x ≡ (closed_of t v z).words
      → out_of t x n ≡ names_tour (underscored (table_of t)) (globals_of t) c
  walked_out few e h =
      let q = walked_house in
      rw (e, h)
      (ms.closed g.does.fits (inside_kept [] g.does.fits.words g.does.kept (new_inside w s new))
      (rw q (every_end (underscored (table_of t)) RoomFor c 0 start every)) (rw q few)
      ∙ rw q)

pub module_as : (t : List ℕ) (n : ℕ) {f : ℕ} → f ≡ number_named t fail_name → module_of t n ≡ visit_of t f (of_role 0) 0 n
unfolding module_of
module_as t n e = rw e
