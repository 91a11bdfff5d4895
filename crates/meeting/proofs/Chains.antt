-- The buckets as the code links them: every place is in the chain of its bucket. Assumes nothing.
use Prim.Native.Nat.{ℕ, zero, suc, ◌+◌, ◌-◌, ◌≤◌, ◌<◌}
use native.Mathlib.Omega.{arith}
use native.Mathlib.Decide.{ℕ_discrete as dec_eq}
use native.Mathlib.Nat.{mod-lt}
use mathlib.Core.Path.{◌≡◌, refl, sym, ap, ◌∙◌}
use mathlib.Core.List.{List}
use lib.ListN.{length, get_or, set, length-set}
use lib.Seq.{get_or-set_same, get_or-set_other}
use Rattle.meeting.specs.Words.{bucket_of, emptied, linked_at, link_words, linked}

pub bucket_low : (t : List ℕ) (i : ℕ) → bucket_of t i < 1024
unfolding bucket_of
bucket_low t i = mod-lt _ (omega arith)

pub emptied_length : (w : List ℕ) (k : ℕ) → length (emptied w k) ≡ length w
unfolding emptied
emptied_length w zero = refl
emptied_length w (suc k) = length-set (emptied w k) (2048 + k) 0 ∙ emptied_length w k

pub linked_length : (t w : List ℕ) (k : ℕ) → length (linked t w k) ≡ length w
unfolding linked link_words linked_at
linked_length t w zero = refl
linked_length t w (suc k) =
    simp length-set (linked_length t w k)

emptied_zero : (w : List ℕ) (k b : ℕ) → 2048 + k ≤ length w → b < k → get_or (emptied w k) (2048 + b) 0 ≡ 0
unfolding emptied
emptied_zero w zero b h l = absurd (omega arith)
emptied_zero w (suc k) b h l = go (dec_eq b k) (λ m. emptied_zero w k b (omega arith) m)
  where
    go : Dec (b ≡ k) → (b < k → get_or (emptied w k) (2048 + b) 0 ≡ 0) → get_or (set (emptied w k) (2048 + k) 0) (2048 + b) 0 ≡ 0
    go (yes e) f = rw e (get_or-set_same (emptied w k) (2048 + k) 0 0 (omega (arith, emptied_length w k)))
    go (no n) f = get_or-set_other (emptied w k) (2048 + k) (2048 + b) 0 0 (λ e. n (omega arith)) ∙ f (omega arith)

emptied_kept : (w : List ℕ) (k j : ℕ) → j < 2048 → get_or (emptied w k) j 0 ≡ get_or w j 0
unfolding emptied
emptied_kept w zero j h = refl
emptied_kept w (suc k) j h = get_or-set_other (emptied w k) (2048 + k) j 0 0 (λ e. omega arith) ∙ emptied_kept w k j h

-- q is 1 + the last place before m that is in bucket b; 0: none is. bk: the bucket of each place
pub record Chain (bk : ℕ → ℕ) (m b q : ℕ) : Type 0 where
  pub low : q ≤ m
  pub in_it : 0 < q → bk (q - 1) ≡ b
  pub all : (j : ℕ) → j < m → bk j ≡ b → j < q

-- the first n places of w, linked: v
pub record Linked (bk : ℕ → ℕ) (w : List ℕ) (n : ℕ) (v : List ℕ) : Type 0 where
  pub long : length v ≡ length w
  pub kept : (j : ℕ) → j < 2048 → get_or v j 0 ≡ get_or w j 0
  pub clear : (j : ℕ) → j < n → get_or v (4096 + j) 0 ≡ 0
  pub heads : (b : ℕ) → b < 1024 → Chain bk n b (get_or v (2048 + b) 0)
  pub links : (m : ℕ) → m < n → Chain bk m (bk m) (get_or v (3072 + m) 0)

-- the bucket of place j
abbrev pub of_place : List ℕ → List ℕ → ℕ → ℕ
of_place t w j = bucket_of t (get_or w j 0)

module _ (t w : List ℕ) (room : 5120 ≤ length w) where
  none_linked : Linked (of_place t w) w 0 (emptied w 1024)
  none_linked =
      record {
        long = emptied_length w 1024;
        kept = λ j h. emptied_kept w 1024 j h;
        clear = λ j h. absurd (omega arith);
        heads = λ b h. let z = emptied_zero w 1024 b (omega arith) h in record { low = omega arith; in_it = λ l. absurd (omega arith); all = λ j l. absurd (omega arith) };
        links = λ m h. absurd (omega arith);
      }

  module _ (k : ℕ) (few : k < 1024) (v : List ℕ) (p : Linked (of_place t w) w k v) where
    -- the three stores
    abbrev b : ℕ
    b = bucket_of t (get_or v k 0)

    b_is : b ≡ of_place t w k
    b_is = ap (bucket_of t) (p.kept k (omega arith))

    b_low : b < 1024
    b_low = bucket_low t (get_or v k 0)

    abbrev v₁ : List ℕ
    v₁ = set v (3072 + k) (get_or v (2048 + b) 0)

    abbrev v₂ : List ℕ
    v₂ = set v₁ (2048 + b) (k + 1)

    abbrev v₃ : List ℕ
    v₃ = set v₂ (4096 + k) 0

    long₁ : length v₁ ≡ length v
    long₁ = length-set v (3072 + k) (get_or v (2048 + b) 0)

    long₂ : length v₂ ≡ length v
    long₂ = length-set v₁ (2048 + b) (k + 1) ∙ long₁

    long₃ : length v₃ ≡ length v
    long₃ = length-set v₂ (4096 + k) 0 ∙ long₂

    other : (j : ℕ) → (j ≡ 3072 + k → ⊥) → (j ≡ 2048 + b → ⊥) → (j ≡ 4096 + k → ⊥) → get_or v₃ j 0 ≡ get_or v j 0
    other j x y z =
        get_or-set_other v₂ (4096 + k) j 0 0 z ∙ get_or-set_other v₁ (2048 + b) j (k + 1) 0 y
        ∙ get_or-set_other v (3072 + k) j (get_or v (2048 + b) 0) 0 x

    at_link : get_or v₃ (3072 + k) 0 ≡ get_or v (2048 + b) 0
    at_link =
        get_or-set_other v₂ (4096 + k) (3072 + k) 0 0 (λ e. omega arith)
        ∙ get_or-set_other v₁ (2048 + b) (3072 + k) (k + 1) 0 (λ e. omega (arith, b_low))
        ∙ get_or-set_same v (3072 + k) (get_or v (2048 + b) 0) 0 (omega (arith, p.long))

    at_head : get_or v₃ (2048 + b) 0 ≡ k + 1
    at_head =
        get_or-set_other v₂ (4096 + k) (2048 + b) 0 0 (λ e. omega (arith, b_low))
        ∙ get_or-set_same v₁ (2048 + b) (k + 1) 0 (omega (arith, p.long, long₁, b_low))

    at_flag : get_or v₃ (4096 + k) 0 ≡ 0
    at_flag = get_or-set_same v₂ (4096 + k) 0 0 (omega (arith, p.long, long₂))

    clear_next : (j : ℕ) → j < suc k → get_or v₃ (4096 + j) 0 ≡ 0
    clear_next j h = go (dec_eq j k)
      where
        go : Dec (j ≡ k) → get_or v₃ (4096 + j) 0 ≡ 0
        go (yes e) = rw e at_flag
        go (no n) =
            other (4096 + j) (λ e. omega arith) (λ e. omega (arith, b_low)) (λ e. n (omega arith)) ∙ p.clear j (omega arith)

    heads_next : (c : ℕ) → c < 1024 → Chain (of_place t w) (suc k) c (get_or v₃ (2048 + c) 0)
    heads_next c h = go (dec_eq c b)
      where
        go : Dec (c ≡ b) → Chain (of_place t w) (suc k) c (get_or v₃ (2048 + c) 0)
        go (yes e) =
            rw (e, at_head)
            (record {
              low = omega arith;
              in_it = λ l. let s : k + 1 - 1 ≡ k = omega arith in rw s (sym b_is);
              all = λ j l m. omega arith;
            })
        go (no n) =
            let o = p.heads c h in
            rw (other (2048 + c) (λ e. omega arith) (λ e. n (omega arith)) (λ e. omega arith))
            (record {
              low = omega (arith, o.low);
              in_it = o.in_it;
              all = λ j l m. o.all j (below j l m (dec_eq j k)) m;
            })
          where
            below : (j : ℕ) → j < suc k → of_place t w j ≡ c → Dec (j ≡ k) → j < k
            below j l m (yes e) = absurd (n (sym m ∙ ap (of_place t w) e ∙ sym b_is))
            below j l m (no x) = omega arith

    links_next : (m : ℕ) → m < suc k → Chain (of_place t w) m (of_place t w m) (get_or v₃ (3072 + m) 0)
    links_next m h = go (dec_eq m k)
      where
        go : Dec (m ≡ k) → Chain (of_place t w) m (of_place t w m) (get_or v₃ (3072 + m) 0)
        go (yes e) =
            rw (e, at_link, ← b_is)
            (p.heads b b_low)
        go (no n) =
            rw (other (3072 + m) (λ e. n (omega arith)) (λ e. omega (arith, b_low)) (λ e. omega arith))
            (p.links m (omega arith))

    one_linked : Linked (of_place t w) w (suc k) (link_words t v k)
    unfolding link_words linked_at
    one_linked =
        record {
          long = long₃ ∙ p.long;
          kept = λ j h. other j (λ e. omega arith) (λ e. omega arith) (λ e. omega arith) ∙ p.kept j h;
          clear = clear_next;
          heads = heads_next;
          links = links_next;
        }

  pub all_linked : (n : ℕ) → n ≤ 1024 → Linked (of_place t w) w n (linked t (emptied w 1024) n)
  unfolding linked
  all_linked zero h = none_linked
  all_linked (suc k) h = one_linked k (omega arith) (linked t (emptied w 1024) k) (all_linked k (omega arith))
