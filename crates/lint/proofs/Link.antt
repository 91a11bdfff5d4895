-- A link of the joined call: one list's records, then another's in the part after them, are the answer of the two as one list.
-- Assumes nothing.
use Rattle.std.specs.Prelude.{Ok}
use Prim.Native.Nat.{ℕ, ◌+◌, ◌*◌, ◌-◌, ◌≤◌, ◌<◌}
use native.Mathlib.Omega.{arith}
use mathlib.Core.Path.{◌≡◌, refl, sym, ap, ap₂, ◌∙◌}
use mathlib.Core.Logic.{◌⊎◌, inl, inr}
use mathlib.Core.List.{List, ◌++◌, append_assoc}
use lib.ListN.{length, take, drop, length-append, length-drop}
use lib.Seq.{take_at, drop_at}
use borrow.Rule.Slice.PartMut.{put_mid}
use Rattle.tree.specs.Judge.{judged}
use Rattle.tree.specs.declared.Facts.{Facts}
use Rattle.tree.specs.declared.Mode.{Mode}
use Rattle.rules.specs.Record.{Rec, width, all_words}
use Rattle.rules.specs.Names.{names_list}
use Rattle.rules.specs.Flow.{flow_list}
use Rattle.rules.specs.Incompatible.{incompatible_list}
use Rattle.rules.specs.Dubious.{dubious_list}
use Rattle.rules.specs.Joined.{raise_all, lint_list}
use Rattle.rules.specs.Calls.{Done, done}
use Rattle.rules.specs.declared.Answer.{Answer}
use Rattle.rules.proofs.Words.{length_words, room_two}
use Rattle.rules.proofs.Tally.{raise_append}
use Rattle.rules.proofs.Answered.{short_or_not, listed, filled, answer_same, done_short, done_listed}
use Rattle.rules.proofs.Whole.{file_lint_few}
use Rattle.answer.proofs.Lent.{tail_lent, tail_back}
use Rattle.lint.specs.Links.{about, after_flow, after_names, JudgedValid, Fits}

-- ---- an answer of a valid file

-- it is about the whole list, written or not
pub about_list : {t : List ℕ} {facts : Facts} → JudgedValid t facts → (rs : List Rec) (o y : List ℕ) (a : Answer) (o' : List ℕ)
    → ◌≡◌ {A = Done} (record { answer = a; room = o' }) (done rs t o y) → about a.outcome ≡ length rs
about_list {t} s rs o y a o' e = go (short_or_not (length o) (width * length rs))
  where
    go : (length o < width * length rs) ⊎ (width * length rs ≤ length o) → about a.outcome ≡ length rs
    go (inl h) = ap (λ (d : Done). about d.answer.outcome) (e ∙ done_short rs t o y s.valid h)
    go (inr h) = ap (λ (d : Done). about d.answer.outcome) (e ∙ done_listed rs t o y s.valid h)

module _ {t : List ℕ} {facts : Facts} (rs : List Rec) (o y : List ℕ) (fits : Fits t facts rs o) where
  whole : done rs t o y ≡ record { answer = listed rs y; room = filled rs o }
  whole = done_listed rs t o y fits.sound.valid fits.enough

-- ---- few records

module _ {t : List ℕ} {facts : Facts} (s : JudgedValid t facts) (mode : Mode) where
  pub length_after_flow : length (incompatible_list t) + length (dubious_list mode t) ≡ length (after_flow mode t)
  length_after_flow = sym (length-append (incompatible_list t) (dubious_list mode t))

  pub length_after_names : length (flow_list t) + length (after_flow mode t) ≡ length (after_names mode t)
  length_after_names = sym (length-append (flow_list t) (after_flow mode t))

  pub few : length (names_list t) + length (after_names mode t) ≤ 10240
  unfolding lint_list
  few =
      let a = file_lint_few t facts s.valid mode in
      let b = length-append (names_list t) (after_names mode t) in
      omega (arith, a, b)

-- ---- xs, then ys: o₁ is the room after xs, of which n records stand there

module _ {t : List ℕ} {facts : Facts} (xs ys : List Rec) (o y : List ℕ) (fits : Fits t facts (xs ++ ys) o) where
  length_both : length (xs ++ ys) ≡ length xs + length ys
  length_both = length-append xs ys

  first_fits : Fits t facts xs o
  first_fits = record { sound = fits.sound; enough = let l = length_both in omega (arith, l, fits.enough) }

  module _ (o₁ : List ℕ) (n : ℕ) (a : Answer) (left : ◌≡◌ {A = Done} (record { answer = a; room = o₁ }) (done xs t o y)) (count : n ≡ length xs) where
    stands : o₁ ≡ filled xs o
    stands = ap (λ (d : Done). d.room) (left ∙ whole xs o y first_fits)

    before : take (width * n) o₁ ≡ all_words xs
    before = rw (stands, count) (take_at (all_words xs) (drop (width * length xs) o) (width * length xs) (length_words xs))

    after : take (length o₁ - width * n) (drop (width * n) o₁) ≡ drop (width * length xs) o
    after =
        tail_lent (width * n) o₁
        ∙ rw (stands, count) (drop_at (all_words xs) (drop (width * length xs) o) (width * length xs) (length_words xs))

    pub end_inside : width * n ≤ length o₁
    end_inside =
        rw (stands, length-append) (let l = length_words xs in omega (arith, l, count))

    second_enough : width * length ys ≤ length (drop (width * length xs) o)
    second_enough = rw length-drop (let l = length_both in omega (arith, l, fits.enough))

    pub second_fits : Fits t facts ys (take (length o₁ - width * n) (drop (width * n) o₁))
    second_fits = record { sound = fits.sound; enough = rw after second_enough }

    pub both_done : (b r : Answer) (e : List ℕ)
        → ◌≡◌ {A = Done} (record { answer = b; room = e }) (done ys t (take (length o₁ - width * n) (drop (width * n) o₁)) a.tally)
        → r.outcome ≡ Ok (n + about b.outcome) → r.tally ≡ b.tally
        → ◌≡◌ {A = Done} (record { answer = r; room = put_mid (width * n) (length o₁ - width * n) o₁ e }) (done (xs ++ ys) t o y)
    both_done b r e q u w =
        let d : List ℕ = take (length o₁ - width * n) (drop (width * n) o₁) in
        let g = q ∙ whole ys d a.tally second_fits in
        let m : about b.outcome ≡ length ys = about_list fits.sound ys d a.tally b e q in
        let k : n + about b.outcome ≡ length (xs ++ ys) = let l = length_both in omega (arith, l, m, count) in
        let i : a.tally ≡ raise_all xs y = ap (λ (z : Done). z.answer.tally) (left ∙ whole xs o y first_fits) in
        let j : b.tally ≡ raise_all ys a.tally = ap (λ (z : Done). z.answer.tally) g in
        let z : r.tally ≡ raise_all (xs ++ ys) y = w ∙ j ∙ ap (raise_all ys) i ∙ sym (raise_append xs ys y) in
        let v : e ≡ all_words ys ++ drop (width * length ys) (drop (width * length xs) o)
        = ap (λ (z : Done). z.room) g ∙ ap (λ (l : List ℕ). all_words ys ++ drop (width * length ys) l) after in
        let p : put_mid (width * n) (length o₁ - width * n) o₁ e ≡ filled (xs ++ ys) o
        = tail_back (width * n) o₁ e ∙ ap₂ (λ (c d : List ℕ). c ++ d) before v ∙ sym (room_two xs ys o) in
        ap₂ (λ (c : Answer) (l : List ℕ). record { answer = c; room = l }) (answer_same r (u ∙ ap Ok k) z) p
        ∙ sym (whole (xs ++ ys) o y fits)

-- ---- xs, then ys, then zs: o₁ is the room after xs, of which n records stand there; e, the part that ys was lent, afterwards

module _ {t : List ℕ} {facts : Facts} (xs ys zs : List Rec) (o y : List ℕ) (fits : Fits t facts (xs ++ (ys ++ zs)) o) where
  fits_all : Fits t facts ((xs ++ ys) ++ zs) o
  fits_all = rw append_assoc fits

  fits_two : Fits t facts (xs ++ ys) o
  fits_two = first_fits (xs ++ ys) zs o y fits_all

  module _ (o₁ : List ℕ) (n : ℕ) (a : Answer) (left : ◌≡◌ {A = Done} (record { answer = a; room = o₁ }) (done xs t o y)) (count : n ≡ length xs) where
    pub end_one : width * n ≤ length o₁
    end_one = end_inside xs ys o y fits_two o₁ n a left count

    module _ (b : Answer) (e : List ℕ)
        (q : ◌≡◌ {A = Done} (record { answer = b; room = e }) (done ys t (take (length o₁ - width * n) (drop (width * n) o₁)) a.tally))
        (m : ℕ) (more : m ≡ n + about b.outcome) where
      abbrev o₂ : List ℕ
      o₂ = put_mid (width * n) (length o₁ - width * n) o₁ e

      abbrev two : Answer
      two = record { outcome = Ok m; tally = b.tally }

      two_done : ◌≡◌ {A = Done} (record { answer = two; room = o₂ }) (done (xs ++ ys) t o y)
      two_done = both_done xs ys o y fits_two o₁ n a left count b two e q (ap Ok more) refl

      two_count : m ≡ length (xs ++ ys)
      two_count =
          let k : about b.outcome ≡ length ys = about_list fits.sound ys _ _ b e q in
          let l = length_both xs ys o y fits_two in
          omega (arith, k, l, count, more)

      pub end_two : width * m ≤ length (put_mid (width * n) (length o₁ - width * n) o₁ e)
      end_two = end_inside (xs ++ ys) zs o y fits_all o₂ m two two_done two_count

      pub three_done : (c r : Answer) (g : List ℕ)
          → ◌≡◌ {A = Done} (record { answer = c; room = g }) (done zs t (take (length o₂ - width * m) (drop (width * m) o₂)) b.tally)
          → r.outcome ≡ Ok (m + about c.outcome) → r.tally ≡ c.tally
          → ◌≡◌ {A = Done} (record { answer = r; room = put_mid (width * m) (length o₂ - width * m) o₂ g }) (done (xs ++ (ys ++ zs)) t o y)
      three_done c r g z u w =
          both_done (xs ++ ys) zs o y fits_all o₂ m two two_done two_count c r g z u w
          ∙ ap (λ (l : List Rec). done l t o y) (append_assoc xs ys zs)

-- ---- the joined call's own lists after those of names
module _ (mode : Mode) (t : List ℕ) {facts : Facts} (valid : judged t ≡ Ok facts) where
  sound : JudgedValid t facts
  sound = record { valid = valid }

  pub about_flow : (o y : List ℕ) {a : Answer} {o' : List ℕ} → ◌≡◌ {A = Done} (record { answer = a; room = o' }) (done (flow_list t) t o y)
      → about a.outcome ≡ length (flow_list t)
  about_flow o y {a} {o'} = about_list sound (flow_list t) o y a o'

  pub about_incompatible : (o y : List ℕ) {a : Answer} {o' : List ℕ}
      → ◌≡◌ {A = Done} (record { answer = a; room = o' }) (done (incompatible_list t) t o y) → about a.outcome ≡ length (incompatible_list t)
  about_incompatible o y {a} {o'} = about_list sound (incompatible_list t) o y a o'

  pub about_dubious : (o y : List ℕ) {a : Answer} {o' : List ℕ}
      → ◌≡◌ {A = Done} (record { answer = a; room = o' }) (done (dubious_list mode t) t o y) → about a.outcome ≡ length (dubious_list mode t)
  about_dubious o y {a} {o'} = about_list sound (dubious_list mode t) o y a o'

  pub length_three : length (flow_list t) + length (incompatible_list t) + length (dubious_list mode t) ≡ length (after_names mode t)
  length_three = let a = length_after_flow sound mode in let b = length_after_names sound mode in omega (arith, a, b)

  pub few_three : length (after_names mode t) ≤ 10240
  few_three = let f = few sound mode in omega arith
