-- The lines of a text.
use Rattle.std.specs.Prelude.{◌≡◌, ℕ, ◌<◌, ◌==◌, ◌⊎◌, false, if◌then◌else◌, List, [], ◌∷◌, ◌++◌, length, codes, All}
use Rattle.std.specs.List.{onto_first}

-- a line ends with a line feed or with the text, and behind a last line feed there is no line
abbrev pub lines_of : List ℕ → List (List ℕ)
lines_of [] = []
lines_of (byte ∷ text) = if byte == 10 then [] ∷ lines_of text else onto_first byte (lines_of text)

-- no line ends in these bytes
abbrev pub IsFeedless : List ℕ → Type 0
IsFeedless bytes = All (λ byte. (byte == 10) ≡ false) bytes

-- a text of whole lines: it is empty, or ends with a line feed
abbrev pub IsWhole : List ℕ → Type 0
IsWhole text = (text ≡ []) ⊎ ((front : List ℕ) × (text ≡ front ++ codes "\n"))

-- a text begins with this line and goes on with `rest`; the last line may have no line feed
pub data Begins (line text rest : List ℕ) : Type 0 where
  fed : IsFeedless line → text ≡ line ++ 10 ∷ rest → Begins line text rest
  last : IsFeedless line → 0 < length line → text ≡ line → rest ≡ [] → Begins line text rest
