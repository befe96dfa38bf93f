-- What a put adds to the bytes that a sink has taken, where those are known.
use Rattle.std.specs.Prelude.{ℕ, List, take, Option, Result, MatchResult}
use Rattle.std.specs.Io.KnownBytes.{Appends}

-- the known bytes grow by some front of the piece
abbrev pub AppendsFront : Option (List ℕ) → Option (List ℕ) → List ℕ → Type 0
AppendsFront old new piece = (count : ℕ) × Appends old new (take count piece)

-- a put that succeeds takes the whole piece, and one that fails takes a front of it
abbrev pub PutAppends : {T E : Type 0} → Option (List ℕ) → Option (List ℕ) → Result T E → List ℕ → Type 0
PutAppends old new result piece = MatchResult result (λ _. Appends old new piece) (λ _. AppendsFront old new piece)
