-- 02, §13, read of what two calls answer and leave: of any list, and of the passes' own calls. Assumes nothing.
use Rattle.std.specs.Prelude.{Ok}
use Prim.Native.Nat.{ℕ, zero, suc, ◌*◌, ◌≤◌}
use native.Mathlib.Omega.{arith}
use mathlib.Core.Path.{◌≡◌, refl, sym, ap, ◌∙◌}
use mathlib.Core.Bool.{Bool, true, false, not, ◌&&◌}
use mathlib.Core.List.{List, [], ◌∷◌}
use lib.Dec.{eqb}
use lib.ListN.{length, get_or, set}
use borrow.Author.Tests.{eqb-true}
use Rattle.tree.specs.Releases.{SameScript, MoreKnown}
use Rattle.tree.specs.Table.{is_global}
use Rattle.tree.specs.Judge.{judged}
use Rattle.tree.specs.declared.Facts.{Facts}
use Rattle.tree.specs.declared.Mode.{Mode}
use Rattle.rules.specs.Record.{Rec, width, keep}
use Rattle.rules.specs.Names.{names_list}
use Rattle.rules.specs.Flow.{flow_list}
use Rattle.rules.specs.Incompatible.{incompatible_list}
use Rattle.rules.specs.Dubious.{dubious_list}
use Rattle.rules.specs.Joined.{one_more, raise, raise_all}
use Rattle.rules.specs.Outcome.{work_words}
use Rattle.rules.specs.Calls.{done, done_with_work, names_call, flow_call, incompatible_call, dubious_call}
use Rattle.rules.specs.Afterwards.{records_in, Gives, WarnedOrRefused, warned, refused}
use Rattle.rules.specs.Releases.{QuietedBy, count_in, QuietedCall}
use Rattle.rules.specs.declared.Answer.{Answer}
use Rattle.rules.proofs.Lists.{keep_so, keep_not, keep_fewer}
use Rattle.rules.proofs.Tally.{length_raise, set_there}
use Rattle.rules.proofs.Called.{length_records, warned_or_refused, lists, records_all, valid_where_listed}
use Rattle.rules.proofs.Answered.{fit}
use Rattle.rules.proofs.Releases.{not_held, same_flow, same_incompatible, same_dubious, quieted_names}

-- ---- counts

-- one store in two tallies that agree at a place
set_alike : (ns ms : List ℕ) → length ns ≡ length ms → (i k : ℕ) → get_or ns k 0 ≡ get_or ms k 0
    → get_or (set ns i (one_more (get_or ns i 0))) k 0 ≡ get_or (set ms i (one_more (get_or ms i 0))) k 0
set_alike [] [] l i k e = refl
set_alike [] (m ∷ ms) l i k e = absurd (omega arith)
set_alike (n ∷ ns) [] l i k e = absurd (omega arith)
set_alike (n ∷ ns) (m ∷ ms) l zero zero e = ap one_more e
set_alike (n ∷ ns) (m ∷ ms) l zero (suc k) e = e
set_alike (n ∷ ns) (m ∷ ms) l (suc i) zero e = e
set_alike (n ∷ ns) (m ∷ ms) l (suc i) (suc k) e = set_alike ns ms (omega arith) i k e

-- a code raised in both
raise_alike : (d c : ℕ) (ns ms : List ℕ) → length ns ≡ length ms → count_in c ns ≡ count_in c ms → count_in c (raise d ns) ≡ count_in c (raise d ms)
unfolding raise
raise_alike zero c ns ms l e = e
raise_alike (suc i) zero ns ms l e = refl
raise_alike (suc i) (suc k) ns ms l e = set_alike ns ms l i k e

-- another code raised in one
raise_other : (d c : ℕ) (ns : List ℕ) → (c ≡ d → ⊥) → count_in c (raise d ns) ≡ count_in c ns
unfolding raise
raise_other zero c ns h = refl
raise_other (suc i) zero ns h = refl
raise_other (suc i) (suc k) ns h = set_there ns i k (one_more (get_or ns i 0)) (λ e. h (ap suc (sym e)))

module _ (u : List ℕ) (c : ℕ) (other : c ≡ 5 → ⊥) where
  held_five : (r : Rec) → not_held u r ≡ false → r.code ≡ 5
  held_five r e = go (eqb r.code 5) refl e
    where
      go : (b : Bool) → eqb r.code 5 ≡ b → not (b && is_global u r.spot.value) ≡ false → r.code ≡ 5
      go true p q = eqb-true r.code 5 p
      go false p q = let z : ◌≡◌ {A = ℕ} 0 1 = cc in absurd (omega arith)

  counts_alike : (rs : List Rec) (ns ms : List ℕ) → length ns ≡ length ms → count_in c ns ≡ count_in c ms
      → count_in c (raise_all (keep (not_held u) rs) ns) ≡ count_in c (raise_all rs ms)
  unfolding raise_all
  counts_alike [] ns ms l e = e
  counts_alike (r ∷ rs) ns ms l e = go (not_held u r) refl (counts_alike rs)
    where
      go : (b : Bool) → not_held u r ≡ b
          → ((ns ms : List ℕ) → length ns ≡ length ms → count_in c ns ≡ count_in c ms → count_in c (raise_all (keep (not_held u) rs) ns) ≡ count_in c (raise_all rs ms))
          → count_in c (raise_all (keep (not_held u) (r ∷ rs)) ns) ≡ count_in c (raise_all rs (raise r.code ms))
      go true p f =
          ap (λ (l : List Rec). count_in c (raise_all l ns)) (keep_so (not_held u) r rs p)
          ∙ f (raise r.code ns) (raise r.code ms) (length_raise r.code ns ∙ l ∙ sym (length_raise r.code ms)) (raise_alike r.code c ns ms l e)
      go false p f =
          ap (λ (l : List Rec). count_in c (raise_all l ns)) (keep_not (not_held u) r rs p)
          ∙ f ns (raise r.code ms) (l ∙ sym (length_raise r.code ms)) (e ∙ sym (raise_other r.code c ms (λ q. other (q ∙ held_five r p))))

-- ---- a list and what a release quiets it to

module _ (u : List ℕ) (rs qs : List Rec) (quiet : QuietedBy u rs qs) where
  -- the second has no more records, so that refusal 11 asks for no more
  pub quieted_fewer : length qs ≤ length rs
  quieted_fewer = rw quiet (keep_fewer (not_held u) rs)

  -- what any calls leave that have these lists, their counts raised from the same ones
  pub quieted_left : (room room₂ tally : List ℕ) → records_in (length rs) room ≡ rs → records_in (length qs) room₂ ≡ qs
      → QuietedCall u (length rs) (length qs) room room₂ (raise_all rs tally) (raise_all qs tally)
  quieted_left room room₂ tally e f =
      record {
        no_more = quieted_fewer;
        records = f ∙ quiet ∙ ap (keep (not_held u)) (sym e);
        counts = λ c other. ap (λ (x : List Rec). count_in c (raise_all x tally)) quiet ∙ counts_alike u c other rs tally tally refl refl;
      }

  -- of calls that run names
  module _ (t work room tally : List ℕ) (a : Answer) (room' work' : List ℕ) (gives : Gives (done_with_work rs t work room tally) a room' work')
      (work₂ room₂ : List ℕ) (b : Answer) (room₂' work₂' : List ℕ) (gives₂ : Gives (done_with_work qs u work₂ room₂ tally) b room₂' work₂') where
    -- THE CALLS: where both have their lists
    pub quieted_call : (n m : ℕ) → a.outcome ≡ Ok n → b.outcome ≡ Ok m → QuietedCall u n m room' room₂' a.tally b.tally
    quieted_call n m i j =
        go (warned_or_refused rs t work room tally a room' work' gives) (warned_or_refused qs u work₂ room₂ tally b room₂' work₂' gives₂)
      where
        go : WarnedOrRefused rs t tally work room a room' work' → WarnedOrRefused qs u tally work₂ room₂ b room₂' work₂'
            → QuietedCall u n m room' room₂' a.tally b.tally
        go (refused why l) k = let z : ◌≡◌ {A = ℕ} 0 1 = cc (l.outcome, i) in absurd (omega arith)
        go (warned l) (refused why k) = let z : ◌≡◌ {A = ℕ} 0 1 = cc (k.outcome, j) in absurd (omega arith)
        go (warned l) (warned k) =
            let x : n ≡ length rs = cc (l.outcome, i) in
            let y : m ≡ length qs = cc (k.outcome, j) in
            rw (x, y, l.counts, k.counts) (quieted_left room' room₂' tally l.records k.records)

    -- THE ROOM: what is enough for the first is enough for the second
    pub no_more_room : (f : Facts) → judged u ≡ Ok f → work_words ≤ length work₂ → (n : ℕ) → a.outcome ≡ Ok n → width * n ≤ length room₂
        → b.outcome ≡ Ok (length qs)
    no_more_room f v w n i o =
        let e = length_records n room' in
        let d = ap length (records_all rs t work room tally a room' work' gives n i) in
        (lists qs u work₂ room₂ tally b room₂' work₂' gives₂ f v w (omega (arith, quieted_fewer, e, d, o))).outcome

-- ---- names' own calls

module _ (t u : List ℕ) (k : MoreKnown t u) (work room tally : List ℕ) (a : Answer) (room' work' : List ℕ)
    (gives : Gives (names_call t work room tally) a room' work')
    (work₂ room₂ : List ℕ) (b : Answer) (room₂' work₂' : List ℕ) (gives₂ : Gives (names_call u work₂ room₂ tally) b room₂' work₂')
    (n : ℕ) (i : a.outcome ≡ Ok n) where
  quiet : QuietedBy u (names_list t) (names_list u)
  quiet = let v = valid_where_listed (names_list t) t work room tally a room' work' gives n i in quieted_names t u k v.0 v.1

  pub names_quieted : (m : ℕ) → b.outcome ≡ Ok m → QuietedCall u n m room' room₂' a.tally b.tally
  names_quieted m j =
      quieted_call u (names_list t) (names_list u) quiet t work room tally a room' work' gives work₂ room₂ b room₂' work₂' gives₂ n m i j

  pub names_room : (f : Facts) → judged u ≡ Ok f → work_words ≤ length work₂ → width * n ≤ length room₂ → b.outcome ≡ Ok (length (names_list u))
  names_room f v w o =
      no_more_room u (names_list t) (names_list u) quiet t work room tally a room' work' gives work₂ room₂ b room₂' work₂' gives₂ f v w n i o

-- ---- the calls of the other passes answer and leave the same

module _ (t u : List ℕ) (s : SameScript t u) (f g : Facts) (v : judged t ≡ Ok f) (w : judged u ≡ Ok g) where
  same_done : (rs qs : List Rec) → qs ≡ rs → (room tally : List ℕ) → done qs u room tally ≡ done rs t room tally
  unfolding done
  same_done rs qs e room tally = rw (e, fit _ v, fit _ w)

  pub same_flow_call : (room tally : List ℕ) → flow_call u room tally ≡ flow_call t room tally
  same_flow_call = same_done (flow_list t) (flow_list u) (same_flow t u s f v)

  pub same_incompatible_call : (room tally : List ℕ) → incompatible_call u room tally ≡ incompatible_call t room tally
  same_incompatible_call = same_done (incompatible_list t) (incompatible_list u) (same_incompatible t u s f v)

  pub same_dubious_call : (mode : Mode) (room tally : List ℕ) → dubious_call mode u room tally ≡ dubious_call mode t room tally
  same_dubious_call mode = same_done (dubious_list mode t) (dubious_list mode u) (same_dubious t u s f v mode)
