-- Names, in the part of the answer room that the records of the other passes leave: what its answer says of the joined list.
-- Assumes nothing.
use Rattle.std.specs.Prelude.{Ok, Err}
use Prim.Native.Nat.{ℕ, ◌+◌, ◌*◌, ◌-◌, ◌/◌, ◌≤◌, ◌<◌}
use native.Mathlib.Omega.{arith}
use native.Mathlib.Nat.{le-div_iff_mul-le}
use mathlib.Core.Path.{◌≡◌, refl, sym, ap, ◌∙◌}
use mathlib.Core.List.{List, [], ◌∷◌, ◌++◌, append_assoc}
use mathlib.Core.Logic.{◌⊎◌, inl, inr}
use lib.ListN.{length, take, drop, length-append, take-append-drop}
use lib.Seq.{length-take-le, drop-append-le}
use borrow.Rule.Slice.PartMut.{put_mid}
use Rattle.tree.specs.Judge.{judged}
use Rattle.tree.specs.declared.Facts.{Facts}
use Rattle.tree.specs.declared.Mode.{Mode}
use Rattle.rules.specs.Record.{Rec, width, all_words}
use Rattle.rules.specs.Names.{names_list}
use Rattle.rules.specs.Joined.{no_tally, lint_list}
use Rattle.rules.specs.Outcome.{work_words, cleared}
use Rattle.rules.specs.Calls.{Done, DoneWithWork, done, done_with_work, lint_call}
use Rattle.rules.specs.Afterwards.{Gives}
use Rattle.rules.specs.declared.Refusal.{Refusal}
use Rattle.rules.specs.declared.Refusal.TheVariants.{WorkRoom, AnswerRoom}
use Rattle.rules.specs.Outcome.{Outcome}
use Rattle.rules.specs.declared.Answer.{Answer}
use Rattle.rules.proofs.Answered.{short_or_not, refused, listed, filled, answer_same, done_listed, work_lacking, work_unlisted, work_listed, with_work}
use Rattle.lint.specs.Links.{about, refusal_with, after_names, JudgedValid, Fits}
use Rattle.lint.proofs.Link.{few, end_inside, second_fits, both_done}

no_words : (rs : List Rec) (p : List ℕ) → length rs ≡ 0 → all_words rs ++ drop (width * length rs) p ≡ p
no_words [] p h = refl
no_words (r ∷ rs) p h = absurd (omega arith)

-- ns: the records of names; rs: those after them; w, o: the work room and the answer room; k: the records that o can hold beside rs
module _ {t : List ℕ} {facts : Facts} (s : JudgedValid t facts) (ns rs : List Rec) (w o : List ℕ) (k : ℕ) (spare : k ≡ length o / width - length rs) where
  abbrev part : List ℕ
  part = take (width * k) o

  most : width * (length o / width) ≤ length o
  most = let l = (le-div_iff_mul-le {k = width} {x = length o / width} {y = length o} (omega arith)).0 (omega arith) in omega arith

  pub part_length : length (take (width * k) o) ≡ width * k
  part_length = length-take-le (width * k) o (let m = most in omega (arith, m, spare))

  both : length (ns ++ rs) ≡ length ns + length rs
  both = length-append ns rs

  pub holds : width * length (ns ++ rs) ≤ length o → length ns + length rs ≤ length o / width
  holds h =
      let b = both in
      (le-div_iff_mul-le {k = width} {x = length ns + length rs} {y = length o} (omega arith)).1 (omega (arith, b, h))

  fits_part : width * length (ns ++ rs) ≤ length o → width * length ns ≤ length part
  fits_part h = let l = part_length in let m = holds h in omega (arith, l, m, spare)

  -- names' own call, in the part
  module _ (a : Answer) (e v y : List ℕ) (gives : Gives (done_with_work ns t w (take (width * k) o) y) a e v) where
    outcome_is : {b : Answer} {o₁ w₁ : List ℕ} → done_with_work ns t w part y ≡ record { answer = b; room = o₁; work = w₁ } → a.outcome ≡ b.outcome
    outcome_is d = ap (λ (x : DoneWithWork). x.answer.outcome) (gives ∙ d)

    -- where there is room for all, names lists its records
    all_listed : work_words ≤ length w → width * length (ns ++ rs) ≤ length o → a.outcome ≡ Ok (length ns)
    all_listed h f = outcome_is (work_listed ns t w part y s.valid h (fits_part f))

    -- what it is about is no more than its list
    pub about_names : about a.outcome ≤ length ns
    about_names = go (short_or_not (length w) work_words) (short_or_not (length part) (width * length ns))
      where
        go : (length w < work_words) ⊎ (work_words ≤ length w) → (length part < width * length ns) ⊎ (width * length ns ≤ length part)
            → about a.outcome ≤ length ns
        go (inl h) l = rw (outcome_is (work_lacking ns t w part y s.valid h)) (omega arith)
        go (inr h) (inl l) = rw (outcome_is (work_unlisted ns t w part y s.valid h l)) (omega arith)
        go (inr h) (inr l) = rw (outcome_is (work_listed ns t w part y s.valid h l)) (omega arith)

    -- a list of names with the others' records within the room: there was room for all
    room_for_all : (n : ℕ) → a.outcome ≡ Ok n → length rs ≤ length o / width
        → (work_words ≤ length w) × (width * length (ns ++ rs) ≤ length o)
    room_for_all n i m = go (short_or_not (length w) work_words) (short_or_not (length part) (width * length ns))
      where
        go : (length w < work_words) ⊎ (work_words ≤ length w) → (length part < width * length ns) ⊎ (width * length ns ≤ length part)
            → (work_words ≤ length w) × (width * length (ns ++ rs) ≤ length o)
        go (inl h) l =
            let q : a.outcome ≡ Err WorkRoom = outcome_is (work_lacking ns t w part y s.valid h) in
            let z : ◌≡◌ {A = ℕ} 0 1 = cc in absurd (omega arith)
        go (inr h) (inl l) =
            let q : a.outcome ≡ Err (AnswerRoom (length ns)) = outcome_is (work_unlisted ns t w part y s.valid h l) in
            let z : ◌≡◌ {A = ℕ} 0 1 = cc in absurd (omega arith)
        go (inr h) (inr l) =
            let p = part_length in let c = most in let b = both in
            (h, omega (arith, p, l, c, b, m, spare))

    -- THE REFUSALS: where not all is well, the joined call's answer and what it leaves
    pub refused_done : (x : Answer) (z : List ℕ) → (work_words ≤ length w → width * length (ns ++ rs) ≤ length o → ⊥)
        → x.outcome ≡ Err (refusal_with a.outcome (length rs)) → x.tally ≡ no_tally
        → Gives (done_with_work (ns ++ rs) t w o z) x (e ++ drop (width * k) o) v
    refused_done x z unwell p q =
        go (short_or_not (length w) work_words) (short_or_not (length part) (width * length ns)) (short_or_not (length o) (width * length (ns ++ rs)))
      where
        kept : e ≡ part → e ++ drop (width * k) o ≡ o
        kept f = ap (λ (l : List ℕ). l ++ drop (width * k) o) f ∙ take-append-drop (width * k) o

        -- names left its part as it was: whatever it answered, the joined call is refused with u
        refused_with : {b : Answer} {w₁ : List ℕ} (u : Refusal)
            → done_with_work ns t w part y ≡ record { answer = b; room = part; work = w₁ }
            → done_with_work (ns ++ rs) t w o z ≡ record { answer = refused u; room = o; work = w₁ } → refusal_with b.outcome (length rs) ≡ u
            → Gives (done_with_work (ns ++ rs) t w o z) x (e ++ drop (width * k) o) v
        refused_with u i j f =
            let d = gives ∙ i in
            let c : x.outcome ≡ Err u = p ∙ ap (λ (r : Outcome). Err (refusal_with r (length rs))) (outcome_is i) ∙ ap Err f in
            rw (j, answer_same x c q, kept (ap (λ (x : DoneWithWork). x.room) d), ap (λ (x : DoneWithWork). x.work) d)

        go : (length w < work_words) ⊎ (work_words ≤ length w) → (length part < width * length ns) ⊎ (width * length ns ≤ length part)
            → (length o < width * length (ns ++ rs)) ⊎ (width * length (ns ++ rs) ≤ length o)
            → Gives (done_with_work (ns ++ rs) t w o z) x (e ++ drop (width * k) o) v
        go (inl h) l m = refused_with WorkRoom (work_lacking ns t w part y s.valid h) (work_lacking (ns ++ rs) t w o z s.valid h) refl
        go (inr h) l (inr m) = absurd (unwell h m)
        go (inr h) (inl l) (inl m) =
            refused_with (AnswerRoom (length (ns ++ rs))) (work_unlisted ns t w part y s.valid h l)
            (work_unlisted (ns ++ rs) t w o z s.valid h m) (ap AnswerRoom (sym both))
        go (inr h) (inr l) (inl m) =
            let c : length ns ≡ 0 = omega (arith, part_length, l, m, both, most, spare) in
            refused_with {b = listed ns y} (AnswerRoom (length (ns ++ rs))) (work_listed ns t w part y s.valid h l ∙ rw (no_words ns part c))
            (work_unlisted (ns ++ rs) t w o z s.valid h m) (ap AnswerRoom (sym both))

    pub never_listed : (why : Refusal) → a.outcome ≡ Err why → work_words ≤ length w → width * length (ns ++ rs) ≤ length o → ⊥
    never_listed why i h f = let l = all_listed h f in let z : ◌≡◌ {A = ℕ} 0 1 = cc in omega arith

    -- THE LIST: where names lists n records and the others' are within the room, names has answered as in the whole room
    module _ (n : ℕ) (i : a.outcome ≡ Ok n) (m : length rs ≤ length o / width) where
      h : work_words ≤ length w
      h = (room_for_all n i m).0

      all_fits : Fits t facts (ns ++ rs) o
      all_fits = record { sound = s; enough = (room_for_all n i m).1 }

      f : width * length ns ≤ length part
      f = fits_part all_fits.enough

      enough : width * length ns ≤ length o
      enough = omega (arith, both, all_fits.enough)

      pub counted : n ≡ length ns
      counted = let l = all_listed h all_fits.enough in cc

      left : Gives (record { answer = listed ns y; room = filled ns part; work = cleared w }) a e v
      left = gives ∙ work_listed ns t w part y s.valid h f

      room : e ++ drop (width * k) o ≡ filled ns o
      room =
          ap (λ (d : DoneWithWork). d.room ++ drop (width * k) o) left
          ∙ append_assoc (all_words ns) (drop (width * length ns) part) (drop (width * k) o)
          ∙ ap (λ (l : List ℕ). all_words ns ++ l) (sym (drop-append-le (width * length ns) part (drop (width * k) o) f)
          ∙ ap (drop (width * length ns)) (take-append-drop (width * k) o))

      as_whole : ◌≡◌ {A = Done} (record { answer = a; room = e ++ drop (width * k) o }) (done ns t o y)
      as_whole = rw (done_listed ns t o y s.valid enough, ap (λ (d : DoneWithWork). d.answer) left, room)

      pub end_here : width * n ≤ length (e ++ drop (width * k) o)
      end_here = end_inside ns rs o y all_fits (e ++ drop (width * k) o) n a as_whole counted

      pub rest_fits : Fits t facts rs (take (length (e ++ drop (width * k) o) - width * n) (drop (width * n) (e ++ drop (width * k) o)))
      rest_fits = second_fits ns rs o y all_fits (e ++ drop (width * k) o) n a as_whole counted

      pub listed_done : (b r : Answer) (g : List ℕ)
          → ◌≡◌ {A = Done} (record { answer = b; room = g })
          (done rs t (take (length (e ++ drop (width * k) o) - width * n) (drop (width * n) (e ++ drop (width * k) o))) a.tally)
          → r.outcome ≡ Ok (n + about b.outcome) → r.tally ≡ b.tally
          → Gives (done_with_work (ns ++ rs) t w o y) r (put_mid (width * n) (length (e ++ drop (width * k) o) - width * n) (e ++ drop (width * k) o) g) v
      listed_done b r g q u x =
          with_work (ns ++ rs) t w o y s.valid h r _ v
          (both_done ns rs o y all_fits (e ++ drop (width * k) o) n a as_whole counted b r g q u x)
          (ap (λ (d : DoneWithWork). d.work) left)

-- ---- the joined call's own lists: rest, the records of the passes after names; k: the records that o can hold beside them
module _ (mode : Mode) (t w o : List ℕ) {facts : Facts} (valid : judged t ≡ Ok facts) {rest : ℕ} (needed : rest ≡ length (after_names mode t))
    {k : ℕ} (lent : k ≡ length o / width - rest) where
  sound : JudgedValid t facts
  sound = record { valid = valid }

  beside : k ≡ length o / width - length (after_names mode t)
  beside = lent ∙ ap (λ (r : ℕ). length o / width - r) needed

  pub part_here : length (take (width * k) o) ≡ width * k
  part_here = part_length sound (names_list t) (after_names mode t) w o k beside

  module _ {a : Answer} {e v : List ℕ} (gives : Gives (done_with_work (names_list t) t w (take (width * k) o) no_tally) a e v) where
    pub about_few : about a.outcome + rest ≤ 10240
    about_few =
        let n = about_names sound (names_list t) (after_names mode t) w o k beside a e v no_tally gives in
        omega (arith, n, needed, few sound mode)

    -- names has no list, or the room is too short for the records after its
    pub refusal_here : (x : Answer) → ((n : ℕ) → a.outcome ≡ Ok n → length o / width < rest)
        → x.outcome ≡ Err (refusal_with a.outcome rest) → x.tally ≡ no_tally → Gives (lint_call mode t w o) x (e ++ drop (width * k) o) v
    unfolding lint_list
    refusal_here x short p q =
        refused_done sound (names_list t) (after_names mode t) w o k beside a e v no_tally gives x no_tally
        (λ h f.
        let l = all_listed sound (names_list t) (after_names mode t) w o k beside a e v no_tally gives h f in
        let b = holds sound (names_list t) (after_names mode t) w o k beside f in
        omega (arith, short _ l, b, needed))
        (p ∙ ap (λ (r : ℕ). Err (refusal_with a.outcome r)) needed) q

    module _ (n : ℕ) (i : a.outcome ≡ Ok n) (long : rest ≤ length o / width) where
      within : length (after_names mode t) ≤ length o / width
      within = rw needed at long

      pub few_here : n + length (after_names mode t) ≤ 10240
      few_here =
          let c = counted sound (names_list t) (after_names mode t) w o k beside a e v no_tally gives n i within in
          omega (arith, c, few sound mode)

      pub inside_here : width * n ≤ length (e ++ drop (width * k) o)
      inside_here = end_here sound (names_list t) (after_names mode t) w o k beside a e v no_tally gives n i within

      pub fits_here : width * length (after_names mode t)
          ≤ length (take (length (e ++ drop (width * k) o) - width * n) (drop (width * n) (e ++ drop (width * k) o)))
      fits_here = (rest_fits sound (names_list t) (after_names mode t) w o k beside a e v no_tally gives n i within).enough

      pub list_here : (b r : Answer) (g : List ℕ)
          → ◌≡◌ {A = Done} (record { answer = b; room = g })
          (done (after_names mode t) t (take (length (e ++ drop (width * k) o) - width * n) (drop (width * n) (e ++ drop (width * k) o))) a.tally)
          → r.outcome ≡ Ok (n + about b.outcome) → r.tally ≡ b.tally
          → Gives (lint_call mode t w o) r (put_mid (width * n) (length (e ++ drop (width * k) o) - width * n) (e ++ drop (width * k) o) g) v
      unfolding lint_list
      list_here = listed_done sound (names_list t) (after_names mode t) w o k beside a e v no_tally gives n i within
