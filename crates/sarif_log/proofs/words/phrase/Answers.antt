use Prim.Native.Nat.{ℕ, ◌+◌, ◌≤◌, ◌<◌}
use native.Mathlib.Omega.{arith}
use mathlib.Core.Path.{◌≡◌, sym}
use mathlib.Core.List.{List, [], ◌++◌, append_assoc}
use Rattle.std.proofs.Common.{◌⊎◌, inl, inr}
use lib.ListN.{length, length-append}
use Rattle.rules.specs.Joined.{codes}
use Rattle.rules.specs.Visit.{look}
use Rattle.base.specs.Ascii.{ascii}
use Rattle.page.proofs.Pages.{added_then, added_retold, nothing_added}
use Rattle.sarif_log.specs.Words.{phrases, reasons, reason, phrase}
use Rattle.sarif_log.proofs.Plainly.{no_reason, no_phrase}
use Rattle.sarif_log.proofs.Worded.{phrase_short}
use Rattle.sarif_log.proofs.words.phrase.Goals as goal

said_of : (code n : ℕ) (v r : List ℕ) → v ≡ ascii (look code phrases "") → r ≡ reason code n → (rest : List ℕ) → v ++ (r ++ rest) ≡ phrase code n ++ rest
unfolding phrase
said_of code n v r e f rest = rw (e, f) (sym (append_assoc (ascii (look code phrases "")) (reason code n) rest))

said_short : (code n : ℕ) (v r : List ℕ) → v ≡ ascii (look code phrases "") → r ≡ reason code n → length v + length r ≤ 60
unfolding phrase
said_short code n v r e f = rw (e, f) (rw length-append at (phrase_short code n))

reason_is : (code n : ℕ) (v : List ℕ) → code ≡ 16 → v ≡ ascii (look n reasons "") → v ≡ reason code n
unfolding reason
reason_is code n v h e = rw (h, e)

no_code : (code n : ℕ) → (code ≡ 0) ⊎ (codes < code) → phrase code n ≡ []
unfolding phrase reason
no_code code n (inl h) = rw h
no_code code n (inr h) = no_phrase code n h

pub returns-then-code : goal.returns-then-code
returns-then-code c =
    let code = c.args.code in
    let n = c.args.reason in
    let e = rw c.in-Ok.ensures at c.phrase_words.ensures in
    let r = reason_is code n _ c.if-code.true c.reason_words.ensures in
    added_retold 60 (λ rest. phrase code n ++ rest) (added_then c.raw.ensures c.raw-then-code.ensures) (said_short code n _ _ e r) (said_of code n _ _ e r)

pub returns-else-code : goal.returns-else-code
returns-else-code c =
    let code = c.args.code in
    let n = c.args.reason in
    let e = rw c.in-Ok.ensures at c.phrase_words.ensures in
    let r = sym (no_reason code n c.if-code.false) in
    added_retold 60 (λ rest. phrase code n ++ rest) c.raw.ensures (let h = said_short code n _ [] e r in omega arith) (said_of code n _ [] e r)

pub returns-in_default : goal.returns-in_default
returns-in_default c =
    let h = c.in_default.ensures in
    let z = no_code c.args.code c.args.reason h.1 in
    added_retold 60 (λ rest. phrase c.args.code c.args.reason ++ rest) (nothing_added c.args.w.now) (omega arith) (λ rest. rw z)
