-- Bytes of a scramble.
use Rattle.std.specs.Prelude.{ℕ, List, Contains}

-- no byte of it is zero
abbrev pub HasNoZero : List ℕ → Type 0
HasNoZero scramble = Contains scramble 0 → ⊥
