-- How the trace of an input ends, before its closing line is put.
use Rattle.std.specs.Prelude.{◌≡◌, ℕ, ◌^◌, ◌<◌, List, length, Option, Some, None}
use Rattle.std.specs.Io.KnownBytes.{Appends, IsAtEnd}
use Rattle.rws_board.specs.Put.{AppendsFront}
use Rattle.rws_config.specs.declared.config.Config.{Config}
use Rattle.rws_record.specs.Run.{Entry, IsRunOver, done_in}
use Rattle.rws_trace.specs.Printing.{text_of}
use Rattle.rws_trace.specs.Reader.{ReaderState}
use Rattle.rws_trace.specs.Script.{Script}
use Rattle.rws_trace.specs.ScriptBoards.{ScriptBoardState}
use Rattle.rws_trace.specs.declared.side.Side.{Side}
use Rattle.rws_trace.specs.declared.side.Side.TheVariants.{Input, Output}
use Rattle.rws_worker.specs.declared.work.WorkEnd.{WorkEnd}
use Rattle.rws_worker.specs.declared.work.WorkEnd.TheVariants as ends
use Rattle.rws_top.specs.Trace.{AnswersTrace, IsScript, closing}
use Rattle.rws_top.specs.declared.trace.TraceEnd.{TraceEnd}
use Rattle.rws_top.specs.declared.trace.TraceEnd.TheVariants.{Closes, Unread, Unwritten, TooMany, OutOfMemory}

-- the script is over, and all but its closing line is put
pub record IsClosing (config : Config) (before left taken taken' : Option (List ℕ)) (events : ℕ) (bad : Option ℕ) : Type 0 where
  pub script : Script
  pub of_input : IsScript config before script
  pub stops : script.bad_line ≡ bad
  pub counted : events ≡ length script.events
  pub few : length script.events < 2 ^ 32
  pub at_end : bad ≡ None → IsAtEnd left
  pub run : List Entry
  pub over : IsRunOver config script.events run
  pub put : Appends taken taken' (text_of (done_in run))

abbrev pub EndsSo : Config → (before left taken taken' : Option (List ℕ)) → (input_failed output_failed : Type 0) → TraceEnd → Type 0
EndsSo config before left taken taken' input_failed output_failed (Closes events bad) = IsClosing config before left taken taken' events bad
EndsSo config before left taken taken' input_failed output_failed Unread = AnswersTrace config before left taken taken' input_failed output_failed 4
EndsSo config before left taken taken' input_failed output_failed Unwritten = AnswersTrace config before left taken taken' input_failed output_failed 5
EndsSo config before left taken taken' input_failed output_failed TooMany = AnswersTrace config before left taken taken' input_failed output_failed 10
EndsSo config before left taken taken' input_failed output_failed OutOfMemory = AnswersTrace config before left taken taken' input_failed output_failed 9

-- how the trace ends where the worker's work does, on the side that failed
abbrev pub failing_end : Option Side → TraceEnd
failing_end (Some Input) = Unread
failing_end (Some Output) = Unwritten
failing_end None = Unwritten

abbrev pub end_of : WorkEnd → Option Side → ℕ → Option ℕ → TraceEnd
end_of ends.Ended failed events bad = Closes events bad
end_of ends.BoardFailed failed events bad = failing_end failed
end_of ends.TooMany failed events bad = TooMany
end_of ends.OutOfMemory failed events bad = OutOfMemory

-- a board that is lent these
abbrev pub board_over : {I O : Type 0} → (I → Option (List ℕ)) → (I → ℕ) → (O → Option (List ℕ)) → (O → ℕ)
    → ReaderState → I → O → Option Side → ScriptBoardState
board_over left input_faults taken output_faults reader input out failed = record {
  reader = reader;
  left = left input;
  taken = taken out;
  input_faults = input_faults input;
  output_faults = output_faults out;
  failed = failed;
}

-- the status at the end of a script, which may have stopped at a bad line
abbrev pub closing_status : Option ℕ → ℕ
closing_status None = 0
closing_status (Some line) = 7

-- the closing line was put, or a front of it
pub data PutsClosing (taken taken' : Option (List ℕ)) (events : ℕ) (bad : Option ℕ) (output_failed : Type 0) (status : ℕ) : Type 0 where
  put : status ≡ closing_status bad → Appends taken taken' (closing events bad) → PutsClosing taken taken' events bad output_failed status
  unput : status ≡ 5 → output_failed → AppendsFront taken taken' (closing events bad) → PutsClosing taken taken' events bad output_failed status
  starved : status ≡ 9 → AppendsFront taken taken' (closing events bad) → PutsClosing taken taken' events bad output_failed status
