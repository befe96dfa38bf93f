-- The log of a transaction: the commands that it sent, each as the list of its payloads, and the sums of their replies.
use Rattle.std.specs.Prelude.{ℕ, ◌+◌, ◌-◌, ◌^◌, List, [], ◌∷◌, ◌++◌, length, min, nat_lt, if◌then◌else◌}

abbrev pub Command : Type 0
Command = List (List ℕ)

pub record Log : Type 0 where
  -- how many bytes the commands may have
  pub limit : ℕ
  -- in the order in which they were sent
  pub commands : List Command
  -- of the first so many of them, in the same order
  pub sums : List (List ℕ)
  -- how many bytes the client sent for them
  pub bytes : ℕ

abbrev pub new_log : ℕ → Log
new_log limit = record { limit = limit; commands = []; sums = []; bytes = 0 }

-- the bytes of all commands and of one more; they stop at the greatest that can be counted
abbrev pub bytes_with : Log → ℕ → ℕ
bytes_with log bytes = min (log.bytes + bytes) (2 ^ 64 - 1)

-- one command more
abbrev pub with_command : Log → Command → ℕ → Log
with_command log command bytes = record log { commands = log.commands ++ command ∷ []; bytes = bytes_with log bytes }

-- too many bytes: the commands are gone, and the bytes stay
abbrev pub emptied : Log → ℕ → Log
emptied log bytes = record log { commands = []; sums = []; bytes = bytes_with log bytes }

-- the first command without a sum has this one
abbrev pub with_sum : Log → List ℕ → Log
with_sum log sum = if nat_lt (length log.sums) (length log.commands) then record log { sums = log.sums ++ sum ∷ [] } else log
