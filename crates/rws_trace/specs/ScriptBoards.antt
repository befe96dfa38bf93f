-- What a board does that reads a trace and prints actions and steps of the pool.
use Rattle.std.specs.Prelude.{◌≡◌, ℕ, ◌+◌, ◌-◌, ◌^◌, ◌≤◌, min, List, [], ◌++◌, length, Option, Some, None, ⊤}
use Rattle.std.specs.Io.KnownBytes.{Appends, IsAtEnd}
use Rattle.rws_board.specs.Boards.{Standing, events_given}
use Rattle.rws_board.specs.Boards.Standing.{Going, Ended, NextFailed, ActFailed}
use Rattle.rws_board.specs.Faults.{Rises}
use Rattle.rws_board.specs.Put.{AppendsFront}
use Rattle.rws_board.specs.declared.board_fault.BoardFault.TheVariants as faults
use Rattle.rws_board.specs.declared.event.Event.{Event}
use Rattle.rws_board.specs.declared.interaction.Interaction.{Interaction}
use Rattle.rws_trace.specs.Lines.{lines_of}
use Rattle.rws_trace.specs.Printing.{text_of}
use Rattle.rws_trace.specs.Reader.{Ahead, ReaderState, Reads, ReadsPart, ReadsOut, script_at}
use Rattle.rws_trace.specs.Script.{Script, all_before}
use Rattle.rws_trace.specs.declared.side.Side.{Side}
use Rattle.rws_trace.specs.declared.side.Side.TheVariants.{Input, Output}

-- The board, with what is known of its input and its output: the bytes left and the bytes taken, where they are told,
-- and the counts of faults. `failed` is the side that failed.
pub record ScriptBoardState : Type 0 where
  pub reader : ReaderState
  pub left : Option (List ℕ)
  pub taken : Option (List ℕ)
  pub input_faults : ℕ
  pub output_faults : ℕ
  pub failed : Option Side

-- the count of a board with two sides
abbrev pub both_counts : ℕ → ℕ → ℕ
both_counts input output = min (input + output) (2 ^ 64 - 1)

-- P holds of what was ahead of the reader and what is ahead now
abbrev pub AheadOf : ScriptBoardState → ScriptBoardState → (List ℕ → List ℕ → Type 0) → Type 0
AheadOf old new P = Ahead P old.reader.held old.left new.reader.held new.left

-- these events come first in the script of what is ahead of the reader
abbrev pub FirstEvents : ReaderState → Option (List ℕ) → List Event → Type 0
FirstEvents reader None events = ⊤
FirstEvents reader (Some left) events = (rest : Script) × (script_at reader.place (lines_of (reader.held ++ left)) ≡ all_before events rest)

-- however the board stands, counts don't fall, and each event that was given is counted
pub record Counts (old new : ScriptBoardState) (interactions : List Interaction) : Type 0 where
  pub input : old.input_faults ≤ new.input_faults
  pub output : old.output_faults ≤ new.output_faults
  pub events : new.reader.place.events ≡ old.reader.place.events + length (events_given interactions)

-- the events of these interactions were read, and the lines of what was done were printed; no line was bad
pub record Goes (old new : ScriptBoardState) (interactions : List Interaction) : Type 0 where
  pub read : AheadOf old new (Reads old.reader.place new.reader.place (events_given interactions))
  pub printed : Appends old.taken new.taken (text_of interactions)

-- the script is over, at its end or at a bad line; at its end the input has nothing left
pub record Ends (old new : ScriptBoardState) (interactions : List Interaction) : Type 0 where
  pub read : AheadOf old new (ReadsOut old.reader.place new.reader.place (events_given interactions))
  pub end : new.reader.place.bad_line ≡ None → IsAtEnd new.left
  pub printed : Appends old.taken new.taken (text_of interactions)

-- the input failed: the events of the whole lines that were read were given, and all lines of what was done were printed; no
-- bytes are held behind the part of a line that was read last
pub record InputFails (old new : ScriptBoardState) (interactions : List Interaction) : Type 0 where
  pub rises : Rises old.input_faults new.input_faults
  pub drained : new.reader.held ≡ []
  pub read : AheadOf old new (ReadsPart old.reader.place new.reader.place (events_given interactions))
  pub printed : Appends old.taken new.taken (text_of interactions)

-- a front of the lines of what was done was printed
pub record IsCutShort (old new : ScriptBoardState) (interactions : List Interaction) : Type 0 where
  pub read : FirstEvents old.reader old.left (events_given interactions)
  pub printed : AppendsFront old.taken new.taken (text_of interactions)

abbrev pub StandsSo : ScriptBoardState → ScriptBoardState → List Interaction → Standing → Type 0
StandsSo old new interactions Going = Goes old new interactions
StandsSo old new interactions Ended = Ends old new interactions
StandsSo old new interactions (NextFailed faults.Failed) = (new.failed ≡ Some Input) × InputFails old new interactions
StandsSo old new interactions (NextFailed faults.OutOfMemory) = IsCutShort old new interactions
StandsSo old new interactions (ActFailed faults.Failed) =
    (new.failed ≡ Some Output) × Rises old.output_faults new.output_faults × IsCutShort old new interactions
StandsSo old new interactions (ActFailed faults.OutOfMemory) = IsCutShort old new interactions

-- the board did this, and then stands so
pub record ScriptDid (old new : ScriptBoardState) (interactions : List Interaction) (standing : Standing) : Type 0 where
  pub counts : Counts old new interactions
  pub stands : StandsSo old new interactions standing
