-- What a log keeps: there is a place for the sum of each command, and no more sums than commands.
use Rattle.std.specs.Prelude.{ℕ, ◌≤◌, List, length}
use Rattle.rws_replay.specs.Logs.{Command}

pub record IsLog (commands : List Command) (sums : List (List ℕ)) (answered : ℕ) : Type 0 where
  pub places : length commands ≤ length sums
  pub filled : answered ≤ length commands
