-- Where the tokens of a whole text lie.
use Rattle.std.specs.Prelude.{◌≡◌, ℕ, ◌≤◌, ◌<◌, Some, List, [], ◌∷◌, length}
use Rattle.rws_token.specs.Lexed.{lexed_of}
use Rattle.rws_token.specs.declared.token.Token.{Token}

-- tokens one behind the other between two places, each of at least one byte
abbrev pub Rise : ℕ → List Token → ℕ → Type 0
Rise from [] to = from ≤ to
Rise from (token ∷ tokens) to = (from ≤ token.start) × (token.start < token.end) × Rise token.end tokens to

-- the tokens of a text lie inside of it
abbrev pub SpansRise : Type 0
SpansRise = (text : List ℕ) → Rise 0 (lexed_of text).tokens (length text)

-- the tokens before a fault end at its place or before it, and its place is one of a byte of the text
abbrev pub FaultsLieBehind : Type 0
FaultsLieBehind =
    (text : List ℕ) (at : ℕ) →
    (lexed_of text).fault ≡ Some at → Rise 0 (lexed_of text).tokens at × (at < length text)
