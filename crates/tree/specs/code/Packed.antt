-- The code's form of the table of children, which its private readers promise. Nobody has to believe it: proofs/Slots
-- shows by one computed test that it says what `slots` says. Assumes nothing.
use Rattle.std.specs.Prelude.{ℕ, ◌/◌, ◌%◌, ◌^◌, List, [], ◌∷◌, Bool, true, ◌&&◌, ◌≡◌, get_or, ltb}
use Rattle.tree.specs.Bytes.{pick}
use Rattle.tree.specs.code.Kids.{kids_stand, filled}

unfoldable pub rows : List ℕ
rows = 0x000000000 ∷ 0x000000000 ∷ 0x000000000 ∷ 0x000000000 ∷ 0x000040000 ∷ 0x000030000 ∷ 0x000734000 ∷ 0x000730000 ∷ 0x000000002 ∷ 0x000030010 ∷ 0x000030110 ∷ 0x000730010 ∷ 0x00b004019 ∷ 0x00000000c ∷ 0x000000000 ∷ 0x000000000 ∷ 0x000000000 ∷ 0x000000000 ∷ 0x000000000 ∷ 0x000000000 ∷ 0x000000000 ∷ 0x000000000 ∷ 0x000000000 ∷ 0x030000005 ∷ 0x000000039 ∷ 0x00003000a ∷ 0x30003000a ∷ 0x000000005 ∷ 0x000000005 ∷ 0x500050000 ∷ 0x000000006 ∷ 0x000000330 ∷ 0x000000330 ∷ 0x000000005 ∷ 0x000000000 ∷ 0x000000000 ∷ 0x000000000 ∷ 0x000000000 ∷ 0x000000000 ∷ 0x000000000 ∷ 0x000000000 ∷ 0x000000008 ∷ 0x000000005 ∷ 0x000000005 ∷ 0x000000005 ∷ 0x000730000 ∷ 0x000030000 ∷ 0x000000000 ∷ []

-- what each number of the code's table is: the class, the least and the most
unfoldable pub class_list : List ℕ
class_list = 9 ∷ 1 ∷ 1 ∷ 2 ∷ 2 ∷ 2 ∷ 2 ∷ 3 ∷ 3 ∷ 4 ∷ 5 ∷ 7 ∷ 6 ∷ []

unfoldable pub least_list : List ℕ
least_list = 0 ∷ 1 ∷ 0 ∷ 1 ∷ 0 ∷ 0 ∷ 3 ∷ 1 ∷ 0 ∷ 0 ∷ 1 ∷ 1 ∷ 0 ∷ []

unfoldable pub most_list : List ℕ
most_list = 0 ∷ 1 ∷ 1024 ∷ 1 ∷ 1 ∷ 1024 ∷ 3 ∷ 1 ∷ 1024 ∷ 1024 ∷ 1024 ∷ 1 ∷ 1024 ∷ []

-- the number of what may stand in role r of kind k
unfoldable pub digit_of : ℕ → ℕ → ℕ
digit_of k r = pick (ltb k 48 && ltb r 9) (get_or rows k 0 / 16 ^ r % 16) 0

-- of children that stand, x says whether those of role r are as many as they must be, for each kind whose number there is d
abbrev pub Fills : List ℕ → ℕ → ℕ → List ℕ → Bool → Type 0
Fills t d r cs x = (k : ℕ) → digit_of k r ≡ d → kids_stand t k cs ≡ true → x ≡ filled t k cs r
