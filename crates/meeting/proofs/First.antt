-- What the words say after all: each place has the first node of its span and name that the walk meets, or its own where it meets none.
-- Assumes nothing.
use Prim.Native.Nat.{ℕ, zero, suc, ◌+◌, ◌-◌, ◌≤◌, ◌<◌}
use native.Mathlib.Omega.{arith}
use native.Mathlib.Decide.{ℕ_discrete as dec_eq, dec_lt}
use mathlib.Core.Path.{◌≡◌, refl, sym, ap, ◌∙◌}
use mathlib.Core.Bool.{Bool, true, false, ◌&&◌, ◌||◌}
use mathlib.Core.List.{List, [], ◌∷◌}
use lib.Dec.{eqb, T, eqb→eq}
use lib.ListN.{length, get_or, set, length-set}
use lib.Seq.{get_or-set_same, get_or-set_other}
use Rattle.tree.specs.Bytes.{pick, begin_at, end_at, value_at}
use Rattle.tree.specs.Forest.{Spot, Head, node_spot, forest_of}
use Rattle.tree.specs.code.Part.{Part}
use Rattle.rules.specs.Names.{same, met, first_or, first_met}
use Rattle.rules.specs.Meeting.{is_met}
use Rattle.rules.specs.Order.{of_role, takes}
use Rattle.rules.proofs.Bools.{and_left, and_right}
use Rattle.meeting.specs.Asked.{never, ask_of, asked_as, asked}
use Rattle.meeting.specs.Words.{bucket_of, emptied, linked, touched, along, meet_words, meets, first_words}
pub use Rattle.meeting.proofs.Siblings.{met_any}
use Rattle.meeting.proofs.Steps.{along_end, along_next}
use Rattle.meeting.proofs.Heads.{Owns, part_asked}
use Rattle.meeting.proofs.Chains.{Chain, Linked, of_place, all_linked, bucket_low, emptied_length, linked_length}

true_so : {b : Bool} → b ≡ true → T b
true_so e = rw e tt

-- nodes that share span and name are in one bucket
same_bucket : (t : List ℕ) (a c : ℕ) → same (node_spot t a) (node_spot t c) ≡ true → bucket_of t a ≡ bucket_of t c
unfolding bucket_of node_spot
same_bucket t a c e =
    let x = eqb (value_at t a) (value_at t c) in
    let y = eqb (begin_at t a) (begin_at t c) in
    let z = eqb (end_at t a) (end_at t c) in
    let u : T (x && (y && z)) = true_so e in
    rw (eqb→eq (value_at t a) (value_at t c) (and_left x (y && z) u), eqb→eq (begin_at t a) (begin_at t c) (and_left y z (and_right x (y && z) u)), eqb→eq (end_at t a) (end_at t c) (and_right y z (and_right x (y && z) u)))

-- a place's word x and flag f after node i is met
abbrev word_after : List ℕ → ℕ → ℕ → ℕ → ℕ
word_after t x f i = pick (eqb f 0) (pick (same (node_spot t x) (node_spot t i)) i x) x

abbrev flag_after : List ℕ → ℕ → ℕ → ℕ → ℕ
flag_after t x f i = pick (eqb f 0) (pick (same (node_spot t x) (node_spot t i)) 1 f) f

pick_same : (a c : Bool) (x y : ℕ) → (c ≡ true → ⊥) → pick a (pick c y x) x ≡ x
pick_same true true x y n = absurd (n refl)
pick_same true false x y n = refl
pick_same false c x y n = refl

module _ (t : List ℕ) (x f i : ℕ) (n : bucket_of t x ≡ bucket_of t i → ⊥) where
  -- a place of another bucket stays
  word_stays : word_after t x f i ≡ x
  word_stays = pick_same (eqb f 0) (same (node_spot t x) (node_spot t i)) x i (λ e. n (same_bucket t x i e))

  flag_stays : flag_after t x f i ≡ f
  flag_stays = pick_same (eqb f 0) (same (node_spot t x) (node_spot t i)) f 1 (λ e. n (same_bucket t x i e))

bucket_stays : (t : List ℕ) (x f i : ℕ) → bucket_of t (word_after t x f i) ≡ bucket_of t x
bucket_stays t x f i = go (eqb f 0) (same (node_spot t x) (node_spot t i)) (same_bucket t x i)
  where
    go : (a c : Bool) → (c ≡ true → bucket_of t x ≡ bucket_of t i) → bucket_of t (pick a (pick c i x) x) ≡ bucket_of t x
    go true true g = sym (g refl)
    go true false g = refl
    go false c g = refl

-- ---- one place

module _ (t u : List ℕ) (k i : ℕ) where
  abbrev stored : List ℕ
  stored = set (set u k i) (4096 + k) 1

  touched_length : length (touched t u k i) ≡ length u
  unfolding touched
  touched_length = go (eqb (get_or u (4096 + k) 0) 0) (same (node_spot t (get_or u k 0)) (node_spot t i))
    where
      go : (a c : Bool) → length (pick a (pick c stored u) u) ≡ length u
      go true true = length-set (set u k i) (4096 + k) 1 ∙ length-set u k i
      go true false = refl
      go false c = refl

  touched_other : (j : ℕ) → (j ≡ k → ⊥) → (j ≡ 4096 + k → ⊥) → get_or (touched t u k i) j 0 ≡ get_or u j 0
  unfolding touched
  touched_other j x y = go (eqb (get_or u (4096 + k) 0) 0) (same (node_spot t (get_or u k 0)) (node_spot t i))
    where
      go : (a c : Bool) → get_or (pick a (pick c stored u) u) j 0 ≡ get_or u j 0
      go true true = get_or-set_other (set u k i) (4096 + k) j 1 0 y ∙ get_or-set_other u k j i 0 x
      go true false = refl
      go false c = refl

  touched_word : k < 1024 → 5120 ≤ length u → get_or (touched t u k i) k 0 ≡ word_after t (get_or u k 0) (get_or u (4096 + k) 0) i
  unfolding touched
  touched_word l r = go (eqb (get_or u (4096 + k) 0) 0) (same (node_spot t (get_or u k 0)) (node_spot t i))
    where
      go : (a c : Bool) → get_or (pick a (pick c stored u) u) k 0 ≡ pick a (pick c i (get_or u k 0)) (get_or u k 0)
      go true true = get_or-set_other (set u k i) (4096 + k) k 1 0 (λ e. omega arith) ∙ get_or-set_same u k i 0 (omega arith)
      go true false = refl
      go false c = refl

  touched_flag : k < 1024 → 5120 ≤ length u
      → get_or (touched t u k i) (4096 + k) 0 ≡ flag_after t (get_or u k 0) (get_or u (4096 + k) 0) i
  unfolding touched
  touched_flag l r = go (eqb (get_or u (4096 + k) 0) 0) (same (node_spot t (get_or u k 0)) (node_spot t i))
    where
      go : (a c : Bool) → get_or (pick a (pick c stored u) u) (4096 + k) 0
          ≡ pick a (pick c 1 (get_or u (4096 + k) 0)) (get_or u (4096 + k) 0)
      go true true = get_or-set_same (set u k i) (4096 + k) 1 0 (omega (arith, length-set u k i))
      go true false = refl
      go false c = refl

-- ---- all places: v, the words as linked; n places, in the buckets bk

-- the words u on the way: the chains and the buckets are as they were
record Going (t v : List ℕ) (n : ℕ) (bk : ℕ → ℕ) (u : List ℕ) : Type 0 where
  long : length u ≡ length v
  chains : (j : ℕ) → 2048 ≤ j → j < 4096 → get_or u j 0 ≡ get_or v j 0
  buckets : (j : ℕ) → j < n → bucket_of t (get_or u j 0) ≡ bk j

-- from u to z: node i is met by the places before q
record Went (t v : List ℕ) (n : ℕ) (bk : ℕ → ℕ) (i q : ℕ) (u z : List ℕ) : Type 0 where
  going : Going t v n bk z
  words : (j : ℕ) → j < n → j < q → get_or z j 0 ≡ word_after t (get_or u j 0) (get_or u (4096 + j) 0) i
  flags : (j : ℕ) → j < n → j < q → get_or z (4096 + j) 0 ≡ flag_after t (get_or u j 0) (get_or u (4096 + j) 0) i
  words_left : (j : ℕ) → j < 2048 → q ≤ j → get_or z j 0 ≡ get_or u j 0
  flags_left : (j : ℕ) → j < n → q ≤ j → get_or z (4096 + j) 0 ≡ get_or u (4096 + j) 0

module _ (t w v : List ℕ) (n : ℕ) (bk : ℕ → ℕ) (few : n ≤ 1024) (room : 5120 ≤ length w) (ties : Linked bk w n v) where
  abbrev Goes : List ℕ → Type 0
  Goes u = Going t v n bk u

  roomy : {u : List ℕ} → Goes u → 5120 ≤ length u
  roomy g = omega (arith, g.long, ties.long)

  touched_going : (u : List ℕ) (k i : ℕ) → k < n → Goes u → Goes (touched t u k i)
  touched_going u k i l g =
      record {
        long = touched_length t u k i ∙ g.long;
        chains = λ j a b. touched_other t u k i j (λ e. omega arith) (λ e. omega arith) ∙ g.chains j a b;
        buckets = λ j a. at j a (dec_eq j k);
      }
    where
      at : (j : ℕ) → j < n → Dec (j ≡ k) → bucket_of t (get_or (touched t u k i) j 0) ≡ bk j
      at j a (yes e) =
          rw e (ap (bucket_of t) (touched_word t u k i (omega arith) (roomy g)) ∙ bucket_stays t (get_or u k 0) (get_or u (4096 + k) 0) i ∙ g.buckets k l)
      at j a (no x) = ap (bucket_of t) (touched_other t u k i j x (λ e. omega arith)) ∙ g.buckets j a

  module _ (i : ℕ) where
    nothing_met : (u : List ℕ) → Goes u → Went t v n bk i 0 u u
    nothing_met u g =
        record {
          going = g;
          words = λ j a b. absurd (omega arith);
          flags = λ j a b. absurd (omega arith);
          words_left = λ j a b. refl;
          flags_left = λ j a b. refl;
        }

    -- place m, then those of the chain before it
    module _ (u z : List ℕ) (m q : ℕ) (l : m < n) (here : bk m ≡ bucket_of t i) (g : Goes u) (ch : Chain bk m (bk m) q)
        (r : Went t v n bk i q (touched t u m i) z) where
      word_before : (j : ℕ) → j < n → j < m → Dec (j < q) → get_or z j 0 ≡ word_after t (get_or u j 0) (get_or u (4096 + j) 0) i
      word_before j a b (yes d) =
          r.words j a d
          ∙ rw (touched_other t u m i j (λ e. omega arith) (λ e. omega arith), touched_other t u m i (4096 + j) (λ e. omega arith) (λ e. omega arith))
      word_before j a b (no d) =
          r.words_left j (omega arith) (omega arith) ∙ touched_other t u m i j (λ e. omega arith) (λ e. omega arith)
          ∙ sym (word_stays t (get_or u j 0) (get_or u (4096 + j) 0) i (λ e. d (ch.all j b (sym (g.buckets j a) ∙ e ∙ sym here))))

      flag_before : (j : ℕ) → j < n → j < m → Dec (j < q) → get_or z (4096 + j) 0 ≡ flag_after t (get_or u j 0) (get_or u (4096 + j) 0) i
      flag_before j a b (yes d) =
          r.flags j a d
          ∙ rw (touched_other t u m i j (λ e. omega arith) (λ e. omega arith), touched_other t u m i (4096 + j) (λ e. omega arith) (λ e. omega arith))
      flag_before j a b (no d) =
          r.flags_left j a (omega arith) ∙ touched_other t u m i (4096 + j) (λ e. omega arith) (λ e. omega arith)
          ∙ sym (flag_stays t (get_or u j 0) (get_or u (4096 + j) 0) i (λ e. d (ch.all j b (sym (g.buckets j a) ∙ e ∙ sym here))))

      word_here : (j : ℕ) → j < n → j < suc m → Dec (j ≡ m) → get_or z j 0 ≡ word_after t (get_or u j 0) (get_or u (4096 + j) 0) i
      word_here j a b (yes e) =
          rw e (r.words_left m (omega arith) ch.low ∙ touched_word t u m i (omega arith) (roomy g))
      word_here j a b (no x) = word_before j a (omega arith) (dec_lt j q)

      flag_here : (j : ℕ) → j < n → j < suc m → Dec (j ≡ m) → get_or z (4096 + j) 0 ≡ flag_after t (get_or u j 0) (get_or u (4096 + j) 0) i
      flag_here j a b (yes e) =
          rw e (r.flags_left m l ch.low ∙ touched_flag t u m i (omega arith) (roomy g))
      flag_here j a b (no x) = flag_before j a (omega arith) (dec_lt j q)

      one_met : Went t v n bk i (suc m) u z
      one_met =
          record {
            going = r.going;
            words = λ j a b. word_here j a b (dec_eq j m);
            flags = λ j a b. flag_here j a b (dec_eq j m);
            words_left = λ j a b. r.words_left j a (omega (arith, ch.low)) ∙ touched_other t u m i j (λ e. omega arith) (λ e. omega arith);
            flags_left = λ j a b. r.flags_left j a (omega (arith, ch.low)) ∙ touched_other t u m i (4096 + j) (λ e. omega arith) (λ e. omega arith);
          }

    -- a step along a chain, from what the rest of the way shows
    went_on : (left : ℕ) (u : List ℕ)
        → ((q : ℕ) (y : List ℕ) → q ≤ left → q ≤ n → (0 < q → bk (q - 1) ≡ bucket_of t i) → Goes y → Went t v n bk i q y (along left t y q i))
        → (q : ℕ) → q ≤ suc left → q ≤ n → (0 < q → bk (q - 1) ≡ bucket_of t i) → Goes u → Went t v n bk i q u (along (suc left) t u q i)
    went_on left u on zero a b h g = rw (along_end t i (suc left) u 0 refl) (nothing_met u g)
    went_on left u on (suc m) a b h g =
        let s : suc m - 1 ≡ m = omega arith in
        let f : suc left - 1 ≡ left = omega arith in
        let x : bk m ≡ bucket_of t i = rw s at (h (omega arith)) in
        let k : Goes (touched t u m i) = touched_going u m i (omega arith) g in
        let y : get_or (touched t u m i) (3072 + m) 0 ≡ get_or v (3072 + m) 0 = k.chains (3072 + m) (omega arith) (omega arith) in
        let c : Chain bk m (bk m) (get_or (touched t u m i) (3072 + m) 0) = rw y (ties.links m (omega arith)) in
        rw (along_next t i (suc left) u (suc m) (omega arith) (λ e. omega arith) refl refl, f, s)
        (one_met u (along left t (touched t u m i) (get_or (touched t u m i) (3072 + m) 0) i) m (get_or (touched t u m i) (3072 + m) 0) (omega arith) x g c
        (on (get_or (touched t u m i) (3072 + m) 0) (touched t u m i) (omega (arith, c.low)) (omega (arith, c.low)) (λ l. c.in_it l ∙ x) k))

    along_went : (left q : ℕ) (u : List ℕ) → q ≤ left → q ≤ n → (0 < q → bk (q - 1) ≡ bucket_of t i) → Goes u → Went t v n bk i q u (along left t u q i)
    along_went zero q u a b h g = let e : q ≡ 0 = omega arith in rw (e, along_end t i 0 u 0 refl) (nothing_met u g)
    along_went (suc left) q u a b h g = went_on left u (λ p y. along_went left p y) q a b h g

    -- node i is met by every place
    module _ (u : List ℕ) (g : Goes u) where
      abbrev from : ℕ
      from = get_or u (2048 + bucket_of t i) 0

      from_chain : Chain bk n (bucket_of t i) from
      from_chain =
          let l = bucket_low t i in
          rw (g.chains (2048 + bucket_of t i) (omega arith) (omega arith)) (ties.heads (bucket_of t i) l)

      met_went : Went t v n bk i from u (meet_words t n u i)
      unfolding meet_words
      met_went = along_went n from u from_chain.low from_chain.low from_chain.in_it g

      met_going : Goes (meet_words t n u i)
      met_going = met_went.going

      elsewhere : (j : ℕ) → j < n → (j < from → ⊥) → bucket_of t (get_or u j 0) ≡ bucket_of t i → ⊥
      elsewhere j a d e = d (from_chain.all j a (sym (g.buckets j a) ∙ e))

      met_word : (j : ℕ) → j < n → get_or (meet_words t n u i) j 0 ≡ word_after t (get_or u j 0) (get_or u (4096 + j) 0) i
      met_word j a = go (dec_lt j from)
        where
          go : Dec (j < from) → get_or (meet_words t n u i) j 0 ≡ word_after t (get_or u j 0) (get_or u (4096 + j) 0) i
          go (yes d) = met_went.words j a d
          go (no d) =
              met_went.words_left j (omega arith) (omega arith) ∙ sym (word_stays t (get_or u j 0) (get_or u (4096 + j) 0) i (elsewhere j a d))

      met_flag : (j : ℕ) → j < n → get_or (meet_words t n u i) (4096 + j) 0 ≡ flag_after t (get_or u j 0) (get_or u (4096 + j) 0) i
      met_flag j a = go (dec_lt j from)
        where
          go : Dec (j < from) → get_or (meet_words t n u i) (4096 + j) 0 ≡ flag_after t (get_or u j 0) (get_or u (4096 + j) 0) i
          go (yes d) = met_went.flags j a d
          go (no d) = met_went.flags_left j a (omega arith) ∙ sym (flag_stays t (get_or u j 0) (get_or u (4096 + j) 0) i (elsewhere j a d))

      met_kept : (j : ℕ) → n ≤ j → j < 2048 → get_or (meet_words t n u i) j 0 ≡ get_or u j 0
      met_kept j a b = met_went.words_left j b (omega (arith, from_chain.low))

  meets_kept : (hs : List Head) (u : List ℕ) → Goes u → (j : ℕ) → n ≤ j → j < 2048 → get_or (meets t n u hs) j 0 ≡ get_or u j 0
  unfolding meets
  meets_kept [] u g j a b = refl
  meets_kept (h ∷ hs) u g j a b =
      meets_kept hs (meet_words t n u h.number) (met_going h.number u g) j a b ∙ met_kept h.number u g j a b

  -- what a place with the word x and the flag f has after these nodes are met
  abbrev told : ℕ → ℕ → List Head → ℕ
  told x f hs = pick (eqb f 0) (first_or x (node_spot t x) hs) x

  told_next : (x f : ℕ) (h : Head) (hs : List Head) → h.spot ≡ node_spot t h.number
      → told (word_after t x f h.number) (flag_after t x f h.number) hs ≡ told x f (h ∷ hs)
  told_next x f h hs o = rw o (go (eqb f 0) refl (same (node_spot t x) (node_spot t h.number)))
    where
      go : (a : Bool) → eqb f 0 ≡ a → (c : Bool)
          → told (pick a (pick c h.number x) x) (pick a (pick c 1 f) f) hs
          ≡ pick a (elim c as (λ y. ℕ) [ true ↦ h.number | false ↦ first_or x (node_spot t x) hs ]) x
      go true e true = refl
      go true e false = rw e
      go false e c = rw e

  meets_placed : (hs : List Head) → Owns t hs → (u : List ℕ) → Goes u → (j : ℕ) → j < n
      → get_or (meets t n u hs) j 0 ≡ told (get_or u j 0) (get_or u (4096 + j) 0) hs
  unfolding meets
  meets_placed [] o u g j a = both (eqb (get_or u (4096 + j) 0) 0)
    where
      both : (b : Bool) → get_or u j 0 ≡ pick b (get_or u j 0) (get_or u j 0)
      both true = refl
      both false = refl
  meets_placed (h ∷ hs) o u g j a =
      meets_placed hs o.1 (meet_words t n u h.number) (met_going h.number u g) j a
      ∙ rw (met_word h.number u g j a, met_flag h.number u g j a)
      (told_next (get_or u j 0) (get_or u (4096 + j) 0) h hs o.0)

along_length : (left : ℕ) (t u : List ℕ) (q i : ℕ) → length (along left t u q i) ≡ length u
unfolding along
along_length zero t u q i = refl
along_length (suc left) t u q i = go (eqb q 0) (along_length left t (touched t u (q - 1) i) (get_or (touched t u (q - 1) i) (3072 + (q - 1)) 0) i)
  where
    go : (b : Bool) → length (along left t (touched t u (q - 1) i) (get_or (touched t u (q - 1) i) (3072 + (q - 1)) 0) i) ≡ length (touched t u (q - 1) i)
        → length {A = ℕ} (elim b as (λ x. List ℕ) [ true ↦ u | false ↦ along left t (touched t u (q - 1) i) (get_or (touched t u (q - 1) i) (3072 + (q - 1)) 0) i ]) ≡ length u
    go true e = refl
    go false e = e ∙ touched_length t u (q - 1) i

meets_length : (t : List ℕ) (n : ℕ) (hs : List Head) (u : List ℕ) → length (meets t n u hs) ≡ length u
unfolding meets meet_words
meets_length t n [] u = refl
meets_length t n (h ∷ hs) u =
    meets_length t n hs (meet_words t n u h.number) ∙ along_length n t u (get_or u (2048 + bucket_of t h.number) 0) h.number

-- as many words as before
pub first_length : (t : List ℕ) (nodes n : ℕ) (w : List ℕ) → length (first_words t nodes n w) ≡ length w
unfolding first_words
first_length t nodes n w =
    meets_length t n (asked 0 (forest_of t 0 nodes)) (linked t (emptied w 1024) n) ∙ linked_length t (emptied w 1024) n ∙ emptied_length w 1024

module _ (t : List ℕ) (n : ℕ) (w : List ℕ) (few : n ≤ 1024) (room : 5120 ≤ length w) where
  ties : Linked (of_place t w) w n (linked t (emptied w 1024) n)
  ties = all_linked t w room n few

  start : Going t (linked t (emptied w 1024) n) n (of_place t w) (linked t (emptied w 1024) n)
  start =
      record {
        long = refl;
        chains = λ j a b. refl;
        buckets = λ j a. ap (bucket_of t) (ties.kept j (omega arith));
      }

  -- the words after the places stay
  pub first_kept : (nodes k : ℕ) → n ≤ k → k < 2048 → get_or (first_words t nodes n w) k 0 ≡ get_or w k 0
  unfolding first_words
  first_kept nodes k a b =
      meets_kept t w (linked t (emptied w 1024) n) n (of_place t w) few room ties (asked 0 (forest_of t 0 nodes)) (linked t (emptied w 1024) n) start k a b
      ∙ ties.kept k b

  -- each place has the first node of its span and name that the walk meets, or its own
  pub first_placed : (nodes : ℕ) → Part t 0 nodes → (k : ℕ) → k < n
      → get_or (first_words t nodes n w) k 0 ≡ first_or (get_or w k 0) (node_spot t (get_or w k 0)) (met (takes never (of_role 0) (forest_of t 0 nodes)))
  unfolding first_words asked asked_as ask_of
  first_placed nodes p k a =
      meets_placed t w (linked t (emptied w 1024) n) n (of_place t w) few room ties (asked 0 (forest_of t 0 nodes)) (part_asked p) (linked t (emptied w 1024) n) start k a
      ∙ rw (ties.clear k a, ties.kept k (omega arith))

-- where one of the nodes has that span and name, what is said of none does not matter
pub first_found : (d : ℕ) (s : Spot) (hs : List Head) → T (is_met hs s) → first_or d s hs ≡ first_met s hs
first_found d s [] f = absurd f
first_found d s (h ∷ hs) f = go (same s h.spot) f (first_found d s hs)
  where
    go : (b : Bool) → T (b || is_met hs s) → (T (is_met hs s) → first_or d s hs ≡ first_met s hs)
        → ◌≡◌ {A = ℕ} (elim b as (λ y. ℕ) [ true ↦ h.number | false ↦ first_or d s hs ]) (elim b as (λ y. ℕ) [ true ↦ h.number | false ↦ first_met s hs ])
    go true f r = refl
    go false f r = r f
