use Prim.Native.Nat.{ℕ, ◌-◌}
use native.Mathlib.Omega.{arith}
use mathlib.Core.Path.{◌≡◌, refl, sym, ap, ◌∙◌}
use mathlib.Core.Bool.{true, false}
use mathlib.Core.List.{List}
use lib.Dec.{eqb}
use lib.ListN.{length}
use borrow.Author.Tests.{ne_eqb}
use Rattle.scope.specs.State.{base_in}
use Rattle.scope.specs.declared.Scope.{Scope}
use Rattle.scope.specs.Words.{away_scope, away_words, outward_in, outward_of, present_of, standing_in}
use Rattle.scope.proofs.Steps.{outward_none, outward_bad, outward_here, outward_on}
use Rattle.scope.proofs.Scope.away.Goals as goal

outward-is : (t w : List ℕ) (s : Scope) (i : ℕ) → outward_of t w s i ≡ outward_in t w s.entries i s.first s.first
unfolding outward_of
outward-is t w s i = refl

pub loop-b-init : goal.loop-b-init
loop-b-init c = (refl, omega (arith, c.requires.0.first, c.requires.0.settings), refl)

pub overflow_add-b : goal.overflow_add-b
overflow_add-b c = omega (arith, c.loop-b.invariant.1)

pub nowhere-requires : goal.nowhere-requires
nowhere-requires c = (rw c.loop-b.invariant.0 c.requires.0, c.requires.1)

pub shape_of-w-then-b-a : goal.shape_of-w-then-b-a
shape_of-w-then-b-a c = c.nowhere.auto.w ∙ ap (λ (l : List ℕ). length l) c.loop-b.invariant.0

pub returns-then-b-a : goal.returns-then-b-a
returns-then-b-a c =
    let t = c.args.t.now in
    let w = c.args.w.now in
    let s = c.args.self in
    let i = c.args.i in
    let b = c.loop-b.b in
    let e : c.word_at-a.result ≡ base_in w (b - 1) = c.word_at-a.ensures.0 ∙ ap (λ (l : List ℕ). base_in l (b - 1)) c.loop-b.invariant.0 in
    let q : outward_of t w s i ≡ 0 = outward-is t w s i ∙ c.loop-b.invariant.2 ∙ outward_bad t w s.entries i b c.loop-b-test.true (rw e at c.if-b-a.true) in
    let z = rw c.loop-b.invariant.0 at c.nowhere.ensures in
    (rw q z.0, rw q z.1)

pub standing-k-requires : goal.standing-k-requires
standing-k-requires c = c.loop-b.invariant.1

pub outside-requires : goal.outside-requires
outside-requires c =
    (c.loop-b.invariant.1, rw c.loop-b.invariant.0 c.requires.0, c.requires.1)

pub shape_of-w-then-is_present : goal.shape_of-w-then-is_present
shape_of-w-then-is_present c = c.outside.auto.w ∙ ap (λ (l : List ℕ). length l) c.loop-b.invariant.0

pub returns-then-is_present : goal.returns-then-is_present
unfolding away_scope away_words
returns-then-is_present c =
    let t = c.args.t.now in
    let w = c.args.w.now in
    let s = c.args.self in
    let i = c.args.i in
    let b = c.loop-b.b in
    let e : c.word_at-a.result ≡ base_in w (b - 1) = c.word_at-a.ensures.0 ∙ ap (λ (l : List ℕ). base_in l (b - 1)) c.loop-b.invariant.0 in
    let k : c.standing-k.result ≡ standing_in t w s.entries c.word_at-a.result b i = c.standing-k.ensures ∙ ap (λ (l : List ℕ). standing_in t l s.entries c.word_at-a.result b i) c.loop-b.invariant.0 in
    let m : c.standing-k.result ≡ standing_in t w s.entries (base_in w (b - 1)) b i = k ∙ ap (λ (a : ℕ). standing_in t w s.entries a b i) e in
    let p : present_of (standing_in t w s.entries (base_in w (b - 1)) b i) ≡ true = ap present_of (sym m) ∙ sym c.is_present.ensures ∙ c.if-is_present.true in
    let q : outward_of t w s i ≡ b = outward-is t w s i ∙ c.loop-b.invariant.2 ∙ outward_here t w s.entries i b c.loop-b-test.true (rw e at c.if-b-a.false) p in
    let n : eqb b 0 ≡ false = ne_eqb b 0 (λ y. omega (arith, y, c.loop-b-test.true)) in
    let z = rw c.loop-b.invariant.0 at c.outside.ensures in
    (rw (q, n, ← m, ← e) z.0, rw (q, n, ← m, ← e) z.1)

pub loop-b-smaller : goal.loop-b-smaller
loop-b-smaller c = omega (arith, c.if-b-a.false)

pub loop-b-preserved : goal.loop-b-preserved
loop-b-preserved c =
    let t = c.args.t.now in
    let w = c.args.w.now in
    let s = c.args.self in
    let i = c.args.i in
    let b = c.loop-b.b in
    let e : c.word_at-a.result ≡ base_in w (b - 1) = c.word_at-a.ensures.0 ∙ ap (λ (l : List ℕ). base_in l (b - 1)) c.loop-b.invariant.0 in
    let k : c.standing-k.result ≡ standing_in t w s.entries c.word_at-a.result b i = c.standing-k.ensures ∙ ap (λ (l : List ℕ). standing_in t l s.entries c.word_at-a.result b i) c.loop-b.invariant.0 in
    let m : c.standing-k.result ≡ standing_in t w s.entries (base_in w (b - 1)) b i = k ∙ ap (λ (a : ℕ). standing_in t w s.entries a b i) e in
    let p : present_of (standing_in t w s.entries (base_in w (b - 1)) b i) ≡ false = ap present_of (sym m) ∙ sym c.is_present.ensures ∙ c.if-is_present.false in
    (c.loop-b.invariant.0, omega (arith, c.if-b-a.false, c.loop-b.invariant.1), rw e (c.loop-b.invariant.2 ∙ outward_on t w s.entries i b c.loop-b-test.true (rw e at c.if-b-a.false) p))

pub nowhere-requires-2 : goal.nowhere-requires-2
nowhere-requires-2 c = (rw c.loop-b.invariant.0 c.requires.0, c.requires.1)

pub shape_of-w : goal.shape_of-w
shape_of-w c = c.nowhere-2.auto.w ∙ ap (λ (l : List ℕ). length l) c.loop-b.invariant.0

pub returns : goal.returns
returns c =
    let t = c.args.t.now in
    let w = c.args.w.now in
    let s = c.args.self in
    let i = c.args.i in
    let o : c.loop-b.b ≡ 0 = omega (arith, c.loop-b-test.false) in
    let q : outward_of t w s i ≡ 0 = outward-is t w s i ∙ c.loop-b.invariant.2 ∙ rw o (outward_none t w s.entries i 0) in
    let z = rw c.loop-b.invariant.0 at c.nowhere-2.ensures in
    (rw q z.0, rw q z.1)
