-- 01, "Record": "code, begin, end, .., second span, third span". A record that makes sense: its code is one of 1 to 17, none of its
-- spans ends before it begins, and in the place of a third span 16 says why. Assumes nothing.
use Rattle.std.specs.Prelude.{◌≤◌, ◌≡◌, Bool, true, false, eqb}
use Rattle.rules.specs.Record.{Rec, Span}
use Rattle.rules.specs.Joined.{codes}

-- 02, §11: "In a code 16 record the first word of the third span is then 1 or 2 and the second word 0."
abbrev pub Reason : Span → Type 0
Reason s = (1 ≤ s.begin) × (s.begin ≤ 2) × (s.end ≡ 0)

abbrev pub Third : Bool → Span → Type 0
Third true s = Reason s
Third false s = s.begin ≤ s.end

pub record Fit (r : Rec) : Type 0 where
  pub some_code : 1 ≤ r.code
  pub a_code : r.code ≤ codes
  pub first : r.spot.begin ≤ r.spot.end
  pub second : r.second.begin ≤ r.second.end
  pub third : Third (eqb 16 r.code) r.third
