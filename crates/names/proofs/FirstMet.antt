-- What stands in the words after the walk of the nodes met: the records of 02, §4. Assumes nothing.
use Prim.Native.Nat.{ℕ, zero, suc, ◌+◌, ◌-◌, ◌≤◌, ◌<◌}
use native.Mathlib.Omega.{arith}
use native.Mathlib.Decide.{dec_lt}
use mathlib.Core.Path.{◌≡◌, refl, sym, ap, ◌∙◌}
use mathlib.Core.Bool.{Bool, true, false}
use mathlib.Core.List.{List, ◌∷◌, ◌++◌, map}
use lib.Dec.{T, ltb}
use lib.ListN.{length, get_or, take, drop, length-append, length-drop}
use lib.Seq.{length-take-le, get_or-drop, get_or-append-add}
use borrow.Author.Tests.{lt-ltb}
use borrow.Rule.Slice.PartMut.{put_mid}
use Rattle.tree.specs.Bytes.{pick}
use Rattle.tree.specs.Forest.{Spot, Head, node_spot, node_head, forest_of}
use Rattle.tree.specs.code.Part.{Part}
use Rattle.tree.specs.Table.{table_of, underscored, globals_of}
use Rattle.rules.specs.Record.{named_at, Each}
use Rattle.rules.specs.Order.{of_role, takes}
use Rattle.rules.specs.Names.{met, first_met, told}
use Rattle.rules.specs.Meeting.{is_met, MeetsFirst}
use Rattle.rules.specs.code.Marks.{names_tour}
use Rattle.rules.specs.Outcome.{work_words}
use Rattle.rules.proofs.FirstMet.{first_is, tour_met}
use Rattle.rules.proofs.Numbered.{Own, met_own}
use Rattle.answer.proofs.Lent.{tail_lent, tail_back}
use Rattle.scope.specs.Lists.{places, places_in}
use Rattle.scope.specs.State.{warning_in, out_of}
use Rattle.meeting.specs.Asked.{never}
use Rattle.meeting.specs.Words.{first_words}
use Rattle.meeting.proofs.First.{first_placed, first_kept, first_length, first_found, met_any}
use Rattle.names.specs.Walk.{module_of, visit_of}
use Rattle.names.specs.Records.{record_in, records_of, met_words}
use Rattle.rules.proofs.Each.{each_right}

-- ---- lists by place

places_in_map : {A B : Type 0} (f : ℕ → B) (g : A → B) (h : ℕ → A) (P : A → Type 0) (m a : ℕ)
    → ((k : ℕ) → a ≤ k → k < a + m → P (h k) → f k ≡ g (h k)) → Each P (places_in h a m) → places_in f a m ≡ map g (places_in h a m)
unfolding places_in
places_in_map f g h P zero a e p = refl
places_in_map f g h P (suc m) a e p =
    λ i. e a (omega arith) (omega arith) p.0 i
    ∷ places_in_map f g h P m (a + 1) (λ k x y. e k (omega arith) (omega arith)) p.1 i

-- ---- a node met

-- a list's first node of a span and name is that of its number
first_own : (t : List ℕ) (n : ℕ) (s : Spot) (hs : List Head) → Each (Own t n) hs → MeetsFirst s hs (first_met s hs)
    → ((node_head t (first_met s hs)).spot ≡ s) × ((node_head t (first_met s hs)).number ≡ first_met s hs)
first_own t n s hs o f =
    let it : Each (Own t n) (f.it ∷ f.after) = each_right (Own t n) f.before (f.it ∷ f.after) (rw f.there at o) in
    let e : node_head t (first_met s hs) ≡ f.it = ap (node_head t) (sym f.numbered) ∙ it.0.0 in
    (ap (λ (h : Head). h.spot) e ∙ f.pair, ap (λ (h : Head). h.number) e ∙ f.numbered)

as_told : (t : List ℕ) (s : Spot) (hs : List Head) (c : ℕ)
    → ((node_head t (first_met s hs)).spot ≡ s) × ((node_head t (first_met s hs)).number ≡ first_met s hs)
    → named_at c (node_head t (first_met s hs)) ≡ told hs (record { code = c; spot = s })
as_told t s hs c o = rw (o.0, o.1)

module _ (t : List ℕ) (n : ℕ) (part : Part t 0 n) (w : List ℕ) (r : ℕ) (few : r ≤ 1024) (long : work_words ≤ length w) where
  nodes_met : met (takes never (of_role 0) (forest_of t 0 n)) ≡ (met (module_of t n))
  unfolding module_of visit_of
  nodes_met = met_any _ _ (of_role 0) (forest_of t 0 n)

  all_own : Each (Own t n) (met (module_of t n))
  all_own = rw (sym nodes_met) (met_own part never (of_role 0))

  -- the words from 3072 on
  beyond : (k : ℕ) → get_or (take 3072 w ++ first_words t n r (drop 3072 w)) (3072 + k) 0 ≡ get_or (first_words t n r (drop 3072 w)) k 0
  beyond k =
      let e : length (take 3072 w) ≡ 3072 = length-take-le 3072 w (omega arith) in
      ap (λ (m : ℕ). get_or (take 3072 w ++ first_words t n r (drop 3072 w)) (m + k) 0) (sym e) ∙ get_or-append-add (take 3072 w) (first_words t n r (drop 3072 w)) k 0

  record_met : (k : ℕ) → k < r → T (is_met (met (module_of t n)) (warning_in t w k).spot) → record_in t (take 3072 w ++ first_words t n r (drop 3072 w)) k ≡ told (met (module_of t n)) (warning_in t w k)
  unfolding record_in warning_in
  record_met k lt m =
      let room : 5120 ≤ length (drop 3072 w) = omega (arith, length-drop 3072 w, long) in
      let s = node_spot t (get_or w (3072 + k) 0) in
      let f = first_is s (met (module_of t n)) m in
      let o = first_own t n s (met (module_of t n)) all_own f in
      let code : get_or (take 3072 w ++ first_words t n r (drop 3072 w)) (4096 + k) 0 ≡ get_or w (4096 + k) 0
      = let a : 4096 + k ≡ 3072 + (1024 + k) = omega arith in
      rw a (beyond (1024 + k) ∙ first_kept t r (drop 3072 w) few room n (1024 + k) (omega arith) (omega arith) ∙ get_or-drop 3072 w (1024 + k) 0) in
      let at : get_or (take 3072 w ++ first_words t n r (drop 3072 w)) (3072 + k) 0 ≡ first_met s (met (module_of t n))
      = beyond k ∙ first_placed t r (drop 3072 w) few room n part k lt
      ∙ rw (get_or-drop 3072 w k 0, nodes_met) (first_found (get_or w (3072 + k) 0) s (met (module_of t n)) m) in
      rw (code, at) (as_told t s (met (module_of t n)) (get_or w (4096 + k) 0) o)

  -- THE RECORDS are the rules': of warnings each of which is met
  met_records : Each (λ x. T (is_met (met (module_of t n)) x.spot)) (out_of t w r) → records_of t (met_words t n w r) r ≡ map (told (met (module_of t n))) (out_of t w r)
  unfolding records_of met_words out_of places places_in
  met_records p = go (dec_lt 0 r)
    where
      go : Dec (0 < r) → places_in (record_in t (pick (ltb 0 r) (take 3072 w ++ first_words t n r (drop 3072 w)) w)) 0 (r - 0)
          ≡ map (told (met (module_of t n))) (places_in (warning_in t w) 0 (r - 0))
      go (yes l) = rw (lt-ltb 0 r l)
          (places_in_map _ (told (met (module_of t n))) (warning_in t w) (λ x. T (is_met (met (module_of t n)) x.spot)) (r - 0) 0 (λ k a b m. record_met k (omega arith) m) p)
      go (no l) = let z : r - 0 ≡ 0 = omega arith in rw z

  -- .. of the warnings of the walk
  pub walk_records : out_of t w r ≡ names_tour (underscored (table_of t)) (globals_of t) (module_of t n)
      → records_of t (met_words t n w r) r ≡ map (told (met (module_of t n))) (names_tour (underscored (table_of t)) (globals_of t) (module_of t n))
  walk_records e =
      let all : Each (λ x. T (is_met (met (module_of t n)) x.spot)) (out_of t w r) = rw e (tour_met (underscored (table_of t)) (globals_of t) (module_of t n)) in
      met_records all ∙ ap (map (told (met (module_of t n)))) e

-- what is lent on from 3072 on, and comes back
pub met_back : (t : List ℕ) (n r : ℕ) (w e : List ℕ) → 0 < r → e ≡ first_words t n r (take (length w - 3072) (drop 3072 w))
    → put_mid 3072 (length w - 3072) w e ≡ met_words t n w r
unfolding met_words
met_back t n r w e h q =
    rw (lt-ltb 0 r h) (tail_back 3072 w e ∙ ap (λ (l : List ℕ). take 3072 w ++ l) (q ∙ ap (first_words t n r) (tail_lent 3072 w)))

pub met_length : (t : List ℕ) (n r : ℕ) (w : List ℕ) → 3072 ≤ length w → length (met_words t n w r) ≡ length w
unfolding met_words
met_length t n r w h = go (ltb 0 r)
  where
    go : (b : Bool) → length (pick b (take 3072 w ++ first_words t n r (drop 3072 w)) w) ≡ length w
    go true =
        length-append (take 3072 w) (first_words t n r (drop 3072 w))
        ∙ omega (arith, length-take-le 3072 w h, first_length t n r (drop 3072 w), length-drop 3072 w, h)
    go false = refl
