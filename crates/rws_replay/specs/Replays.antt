-- A replay of the first items of a log.
use Rattle.std.specs.Prelude.{ℕ, ◌+◌, ◌-◌, ◌^◌, min, nat_lt, Option, Some, None, if◌then◌else◌}

pub record Replay : Type 0 where
  -- how many items of the log are replayed
  pub items : ℕ
  -- how many of them were answered as before, since the replay began or its link was lost last
  pub compared : ℕ
  -- how often its link was lost; the count stops at the greatest u32
  pub losses : ℕ

abbrev pub new_replay : ℕ → Replay
new_replay items = record { items = items; compared = 0; losses = 0 }

-- the place of the next item, until all were compared
abbrev pub next_item : Replay → Option ℕ
next_item replay = if nat_lt replay.compared replay.items then Some replay.compared else None

abbrev pub losses_after : Replay → ℕ
losses_after replay = min (replay.losses + 1) (2 ^ 32 - 1)

-- its link was lost
abbrev pub begun_again : Replay → Replay
begun_again replay = record replay { compared = 0; losses = losses_after replay }
