-- The escape as a reader believes it: which bytes stay, which are escaped, which are replaced. Assumes nothing.
use Rattle.std.specs.Prelude.{ℕ, ◌≡◌, Bool, true, ◌&&◌, not, List, [], ◌∷◌, ◌++◌, T}
use Rattle.json_text.specs.Utf8.{Char}
use Rattle.json_text.specs.Escape.{must, six, replacement}

-- no character of UTF-8 begins the text s
abbrev pub Outside : List ℕ → Type 0
Outside s = (c r : List ℕ) → Char c → ¬ (s ≡ c ++ r)

-- no byte of it must be escaped
abbrev pub clear : List ℕ → Bool
clear [] = true
clear (b ∷ s) = not (must b) && clear s

-- e is the text of the bytes s: "a replacement character for each byte outside well-formed UTF-8", an escape for each character that
-- must have one, everything else kept
pub data Escaped : List ℕ → List ℕ → Type 0 where
  end : Escaped [] []
  kept : {c s e : List ℕ} → Char c → T (clear c) → Escaped s e → Escaped (c ++ s) (c ++ e)
  marked : {b : ℕ} {s e : List ℕ} → T (must b) → Escaped s e → Escaped (b ∷ s) (six b ++ e)
  replaced : {b : ℕ} {s e : List ℕ} → Outside (b ∷ s) → Escaped s e → Escaped (b ∷ s) (replacement ++ e)
