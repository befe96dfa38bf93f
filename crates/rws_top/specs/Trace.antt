-- What the program answers and prints, by its status.
use Rattle.std.specs.Prelude.{◌≡◌, ℕ, ◌+◌, ◌^◌, ◌<◌, ◌≤◌, ◌⊎◌, Bool, false, List, [], ◌∷◌, ◌++◌, length, Option, Some, None, is_none, ⊤}
use Rattle.std.specs.Io.KnownBytes.{Appends, IsAtEnd}
use Rattle.rws_board.specs.declared.event.Event.{Event}
use Rattle.rws_board.specs.declared.interaction.Interaction.{Interaction}
use Rattle.rws_config.specs.declared.account.Account.{Account}
use Rattle.rws_config.specs.declared.config.Config.{Config}
use Rattle.rws_record.specs.Run.{Entry, IsRunOver, done_in}
use Rattle.rws_trace.specs.Lines.{IsFeedless, IsWhole as IsWholeLines}
use Rattle.rws_trace.specs.Script.{Script, script_of}
use Rattle.rws_trace.specs.Printing.{text_of, end_line, bad_line}
use Rattle.rws_trace.specs.declared.settings.TraceSettings.{TraceSettings}
use Rattle.rws_worker.specs.Working.{IsSpent}

-- the first account has no password
abbrev pub is_plain : List Account → Bool
is_plain [] = false
is_plain (account ∷ accounts) = is_none account.stored

-- what a trace's lines are read by
abbrev pub settings_of : Config → TraceSettings
settings_of config = record { servers = length config.servers; plain = is_plain config.accounts }

-- the script of the input's text, where the text is known
abbrev pub IsScript : Config → Option (List ℕ) → Script → Type 0
IsScript config (Some text) script = script ≡ script_of (settings_of config) text
IsScript config None script = ⊤

-- the line that closes the trace of a script: how many events it had, or the bad line at which it stopped
abbrev pub closing : ℕ → Option ℕ → List ℕ
closing events None = end_line events
closing events (Some line) = bad_line line

-- the whole text of a script: that of a run over its events, with the closing line
pub record IsWhole (config : Config) (script : Script) (text : List ℕ) : Type 0 where
  pub run : List Entry
  pub over : IsRunOver config script.events run
  pub few : length script.events < 2 ^ 32
  pub printed : text ≡ text_of (done_in run) ++ closing (length script.events) script.bad_line

-- the text of a run over some first events of a script
pub record IsBegun (config : Config) (script : Script) (text : List ℕ) : Type 0 where
  pub heard : List Event
  pub ahead : List Event
  pub parted : script.events ≡ heard ++ ahead
  pub run : List Entry
  pub over : IsRunOver config heard run
  pub printed : text ≡ text_of (done_in run)

pub record IsFront (part whole : List ℕ) : Type 0 where
  pub rest : List ℕ
  pub parted : whole ≡ part ++ rest

-- a front of a whole text, or of one that has begun
pub record IsCut (config : Config) (script : Script) (text : List ℕ) : Type 0 where
  pub whole : List ℕ
  pub of_script : IsWhole config script whole ⊎ IsBegun config script whole
  pub front : IsFront text whole

-- No event of what was read is missing: those of its whole lines were heard, behind which comes a part of a line; or, where
-- the input had come to its end before, those of all its lines.
pub data HeardAll (config : Config) (text left : List ℕ) (heard : List Event) : Type 0 where
  of_whole_lines : (lines part : List ℕ) → IsWholeLines lines → IsFeedless part → text ≡ lines ++ (part ++ left)
      → script_of (settings_of config) lines ≡ record { events = heard; bad_line = None } → HeardAll config text left heard
  of_all_lines : left ≡ [] → script_of (settings_of config) text ≡ record { events = heard; bad_line = None }
      → HeardAll config text left heard

-- the same, where the input tells its bytes
abbrev pub HasHeardAll : Config → Option (List ℕ) → Option (List ℕ) → List Event → Type 0
HasHeardAll config None left heard = ⊤
HasHeardAll config (Some text) None heard = ⊥
HasHeardAll config (Some text) (Some left) heard = HeardAll config text left heard

-- What was printed for a script, by the status. `before` is what the input had, and `left` what it has left, where it tells
-- that. The types say that the count of faults of the input, or of the output, rose.
pub data Traces (config : Config) (script : Script) (printed : List ℕ) (before left : Option (List ℕ)) (input_failed output_failed : Type 0) (status : ℕ) : Type 0 where
  finished : status ≡ 0 → script.bad_line ≡ None → IsAtEnd left → IsWhole config script printed
      → Traces config script printed before left input_failed output_failed status
  stopped : (line : ℕ) → status ≡ 7 → script.bad_line ≡ Some line → IsWhole config script printed
      → Traces config script printed before left input_failed output_failed status
  unread : status ≡ 4 → input_failed → (begun : IsBegun config script printed) → HasHeardAll config before left begun.heard
      → Traces config script printed before left input_failed output_failed status
  unwritten : status ≡ 5 → output_failed → IsCut config script printed
      → Traces config script printed before left input_failed output_failed status
  out_of_memory : status ≡ 9 → IsCut config script printed
      → Traces config script printed before left input_failed output_failed status
  -- before the event of number 2^32
  too_many : status ≡ 10 → (begun : IsBegun config script printed) → length begun.heard + 1 ≡ 2 ^ 32 → 2 ^ 32 ≤ length script.events
      → Traces config script printed before left input_failed output_failed status
  -- where no further link can be numbered, or no further thing that is done be counted
  spent : status ≡ 10 → (done : List Interaction) → IsSpent config done → printed ≡ text_of done → IsCut config script printed
      → Traces config script printed before left input_failed output_failed status

-- the trace of an input on an output, which has `taken` before and `taken'` now
pub record AnswersTrace (config : Config) (before left taken taken' : Option (List ℕ)) (input_failed output_failed : Type 0) (status : ℕ) : Type 0 where
  pub script : Script
  pub printed : List ℕ
  pub of_input : IsScript config before script
  pub took : Appends taken taken' printed
  pub by_status : Traces config script printed before left input_failed output_failed status
