-- What comes of a command that was sent.
use Rattle.std.specs.Prelude.{◌≡◌, ◌<◌, ◌≤◌, ℕ, Result, Ok, Err}
use Rattle.rws_replay.specs.declared.fault.SentFault.{SentFault}
use Rattle.rws_replay.specs.declared.fault.SentFault.TheVariants.{TooLarge, OutOfMemory}
use Rattle.rws_replay.specs.Logs.{Log, Command, bytes_with, with_command, emptied}

-- It stands in the log exactly where all commands have at most as many bytes as the limit; want of memory comes there alone, and
-- changes nothing. Else the commands are gone, and the bytes stay.
abbrev pub Sends : Log → Command → ℕ → Log → Result (Unit {0}) SentFault → Type 0
Sends old command bytes new (Ok _) = (bytes_with old bytes ≤ old.limit) × (new ≡ with_command old command bytes)
Sends old command bytes new (Err OutOfMemory) = (bytes_with old bytes ≤ old.limit) × (new ≡ old)
Sends old command bytes new (Err (TooLarge all)) =
    (old.limit < bytes_with old bytes) × (all ≡ bytes_with old bytes) × (new ≡ emptied old bytes)
