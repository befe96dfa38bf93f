-- What a replay that has come to its end means.
use Rattle.std.specs.Prelude.{◌≡◌, ◌+◌, ℕ, List, [], ◌∷◌, ◌++◌, take, slice_get, Some, None}
use Rattle.rws_replay.specs.Replays.{Replay, new_replay, next_item, begun_again}

-- A replay of a log with these sums has come here, by steps of its calls; `seen` are the sums of the replies since it began or was
-- lost last.
pub data Runs (sums : List (List ℕ)) : Replay → List (List ℕ) → Type 0 where
  begins : (items : ℕ) → Runs sums (new_replay items) []
  compares : (replay : Replay) (seen : List (List ℕ)) (at : ℕ) (sum : List ℕ)
      → Runs sums replay seen → next_item replay ≡ Some at → slice_get sums at ≡ Some sum
      → Runs sums (record replay { compared = replay.compared + 1 }) (seen ++ sum ∷ [])
  is_lost : (replay : Replay) (seen : List (List ℕ)) → Runs sums replay seen → Runs sums (begun_again replay) []

-- once no item is left, the replies since the last loss were those of the log's first items: all of them, in order, each once
abbrev pub ReplaysAreWhole : Type 0
ReplaysAreWhole = (sums : List (List ℕ)) (replay : Replay) (seen : List (List ℕ)) → Runs sums replay seen → next_item replay ≡ None
    → seen ≡ take replay.items sums
