-- What is written so far: the lent bytes, and how many were to be written. Assumes nothing.
use Rattle.std.specs.Prelude.{ℕ, ◌+◌, ◌≤◌, ◌≡◌, List, [], ◌∷◌, set}
use Rattle.base.specs.Count.{one_more}
use Rattle.page.specs.declared.Writer.{Writer}

pub record Page : Type 0 where
  pub out : List ℕ
  pub count : ℕ

abbrev pub page : List ℕ → ℕ → Page
page o n = record { out = o; count = n }

-- one more byte: stored where there is room for it, and counted
unfoldable pub write : Page → ℕ → Page
write p b = page (set p.out p.count b) (one_more p.count)

-- bytes one after the other
unfoldable pub writes : Page → List ℕ → Page
writes p [] = p
writes p (b ∷ bs) = writes (write p b) bs

-- After n bytes in the room o a function has left the room o' and n' bytes: what it wrote is what f puts before what follows,
-- and has at most k bytes.
pub record Wrote (o : List ℕ) (n : ℕ) (o' : List ℕ) (n' k : ℕ) (f : List ℕ → List ℕ) : Type 0 where
  pub so : (rest : List ℕ) → writes (page o' n') rest ≡ writes (page o n) (f rest)
  pub most : n' ≤ n + k

-- The writer w became w': what f puts before what follows is written, at most k bytes, into the same lent room.
pub record Added (w w' : Writer) (k : ℕ) (f : List ℕ → List ℕ) : Type 0 where
  pub wrote : Wrote w.out.now w.count w'.out.now w'.count k f
  pub same_room : w'.out.ghost_name ≡ w.out.ghost_name
