-- How a reader of a trace goes on. What is ahead of it is the bytes that it holds, and then those that its source has
-- left; where the source doesn't tell what it has left, nothing is said.
use Rattle.std.specs.Prelude.{◌≡◌, ℕ, ◌<◌, List, [], ◌∷◌, ◌++◌, length, Option, Some, None, ⊤}
use Rattle.std.specs.Io.KnownBytes.{IsAtEnd}
use Rattle.rws_board.specs.declared.event.Event.{Event}
use Rattle.rws_board.specs.declared.event.Event.TheVariants.{End}
use Rattle.rws_trace.specs.Lines.{lines_of, Begins, IsFeedless, IsWhole}
use Rattle.rws_trace.specs.Script.{Script, first_order, ended, told_before, all_before, script_from}
use Rattle.rws_trace.specs.declared.event_line.TheConstants.{MAX_LINE}
use Rattle.rws_trace.specs.declared.found.Found.{Found}
use Rattle.rws_trace.specs.declared.found.Found.TheVariants.{Line, TooLong, Nothing}
use Rattle.rws_trace.specs.declared.place.Place.{Place}
use Rattle.rws_trace.specs.declared.settings.TraceSettings.{TraceSettings}

-- P holds of what was ahead and what is ahead now
abbrev pub Ahead : (List ℕ → List ℕ → Type 0) → List ℕ → Option (List ℕ) → List ℕ → Option (List ℕ) → Type 0
Ahead P held None held' left' = ⊤
Ahead P held (Some left) held' None = ⊥
Ahead P held (Some left) held' (Some left') = P (held ++ left) (held' ++ left')

-- nothing of what is ahead was lost
abbrev pub SameAhead : List ℕ → Option (List ℕ) → List ℕ → Option (List ℕ) → Type 0
SameAhead held left held' left' = Ahead (λ before rest. before ≡ rest) held left held' left'

-- nothing of what is ahead was lost, and where nothing is held the source is at its end
pub record Fills (held : List ℕ) (left : Option (List ℕ)) (held' : List ℕ) (left' : Option (List ℕ)) : Type 0 where
  pub same : SameAhead held left held' left'
  pub end : held' ≡ [] → IsAtEnd left'

-- what was found at the front of the bytes ahead: a line, one that is too long, or none
abbrev pub IsFound : Found → List ℕ → List ℕ → List ℕ → Type 0
IsFound Line line before rest = Begins line before rest
IsFound TooLong line before rest = (first : List ℕ) × (others : List (List ℕ)) × (lines_of before ≡ first ∷ others) × (MAX_LINE < length first)
IsFound Nothing line before rest = (before ≡ []) × (rest ≡ [])

-- a reader: the bytes that it holds, and its place in the script
pub record ReaderState : Type 0 where
  pub held : List ℕ
  pub place : Place

-- a reader at the start of a trace
abbrev pub fresh : TraceSettings → ReaderState
fresh settings = record { held = []; place = record { settings = settings; number = 1; order = first_order; events = 0; bad_line = None } }

-- at its bad line a script stops for good
abbrev pub stopped_at : Option ℕ → Script → Script
stopped_at None script = script
stopped_at (Some line) script = ended (Some line)

-- the script of these lines, at a place
abbrev pub script_at : Place → List (List ℕ) → Script
script_at place lines = stopped_at place.bad_line (script_from place.settings place.number place.order lines)

-- how many events of the script this is: the end is none
abbrev pub count_of : Event → ℕ
count_of End = 0
count_of event = 1

abbrev pub told_count : Option Event → ℕ
told_count None = 0
told_count (Some event) = count_of event

-- the event comes next in the script before, and then comes the script behind; the end comes where it is over
abbrev pub IsNext : Event → Option ℕ → Script → Script → Type 0
IsNext End bad before behind = (before ≡ ended bad) × (behind ≡ ended bad)
IsNext event bad before behind = (before ≡ told_before event behind) × (bad ≡ None)

-- the same, where a line may have said nothing
abbrev pub IsNextIf : Option Event → Option ℕ → Script → Script → Type 0
IsNextIf None bad before behind = (before ≡ behind) × (bad ≡ None)
IsNextIf (Some event) bad before behind = IsNext event bad before behind

-- The reader went from the old place to the new one and told these events: over whole lines, whatever comes behind
-- them, or over all that was ahead, of which the last line may have no line feed.
pub data Reads (old new : Place) (events : List Event) (before rest : List ℕ) : Type 0 where
  whole : (read : List ℕ) → IsWhole read → before ≡ read ++ rest
      → ((lines : List (List ℕ)) → script_at old (lines_of read ++ lines) ≡ all_before events (script_at new lines))
      → Reads old new events before rest
  all : rest ≡ [] → script_at old (lines_of before) ≡ all_before events (script_at new []) → Reads old new events before rest

-- the same, and then over a part of a line, without its line feed
pub record ReadsPart (old new : Place) (events : List Event) (before rest : List ℕ) : Type 0 where
  pub part : List ℕ
  pub feedless : IsFeedless part
  pub going : new.bad_line ≡ None
  pub reads : Reads old new events before (part ++ rest)

-- the script is over, but for these events
abbrev pub ReadsOut : Place → Place → List Event → List ℕ → List ℕ → Type 0
ReadsOut old new events before rest =
    (script_at old (lines_of before) ≡ all_before events (ended new.bad_line)) × (script_at new (lines_of rest) ≡ ended new.bad_line)

-- the reader told this event, or the end
abbrev pub Tells : Event → Place → Place → List ℕ → List ℕ → Type 0
Tells End old new before rest = ReadsOut old new [] before rest
Tells event old new before rest = Reads old new (event ∷ []) before rest × (new.bad_line ≡ None)

-- the same, where the line may have said nothing
abbrev pub TellsIf : Option Event → Place → Place → List ℕ → List ℕ → Type 0
TellsIf None old new before rest = Reads old new [] before rest × (new.bad_line ≡ None)
TellsIf (Some event) old new before rest = Tells event old new before rest

-- the event comes next in the script of what was ahead of the old reader
abbrev pub TellsNext : ReaderState → Option (List ℕ) → Event → ReaderState → Option (List ℕ) → Type 0
TellsNext old left event new left' = Ahead (Tells event old.place new.place) old.held left new.held left'
