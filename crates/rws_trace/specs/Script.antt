-- The events that a trace tells: those of its lines, up to the first bad one.
use Rattle.std.specs.Prelude.{ℕ, ◌+◌, ◌==◌, ◌||◌, nat_lt, nat_le, Bool, true, if◌then◌else◌, List, [], ◌∷◌, ◌++◌, length, Option, Some, None}
use Rattle.rws_trace.specs.EventLine.{meaning_of}
use Rattle.rws_trace.specs.Lines.{lines_of}
use Rattle.rws_board.specs.declared.event.Event.{Event}
use Rattle.rws_board.specs.declared.event.Event.TheVariants.{Accept, Begin, Clock}
use Rattle.rws_trace.specs.declared.event_line.EventLine.{EventLine}
use Rattle.rws_trace.specs.declared.event_line.EventLine.TheVariants.{Silent, Says, Bad}
use Rattle.rws_trace.specs.declared.event_line.TheConstants.{MAX_LINE, LAST_LINE}
use Rattle.rws_trace.specs.declared.order.Order.{Order}
use Rattle.rws_trace.specs.declared.settings.TraceSettings.{TraceSettings}

-- the events in order, and the number of the bad line at which they stop, if there is one
pub record Script : Type 0 where
  pub events : List Event
  pub bad_line : Option ℕ

-- a script that is over
abbrev pub ended : Option ℕ → Script
ended bad = record { events = []; bad_line = bad }

-- the event, and then the script
abbrev pub told_before : Event → Script → Script
told_before event script = record { events = event ∷ script.events; bad_line = script.bad_line }

-- these events, and then the script
abbrev pub all_before : List Event → Script → Script
all_before events script = record { events = events ++ script.events; bad_line = script.bad_line }

-- sessions begin with rising numbers, and the clock never goes back
abbrev pub may_come : Order → Event → Bool
may_come order (Accept session scramble) = nat_lt order.begun session
may_come order (Begin session server) = nat_lt order.begun session
may_come order (Clock now) = nat_le order.clock now
may_come order event = true

abbrev pub in_order : Order → EventLine → EventLine
in_order order (Says event) = if may_come order event then Says event else Bad
in_order order meaning = meaning

-- the order behind an event
abbrev pub order_after : Order → Event → Order
order_after order (Accept session scramble) = record order { begun = session }
order_after order (Begin session server) = record order { begun = session }
order_after order (Clock now) = record order { clock = now }
order_after order event = order

-- the order behind a line with this meaning
abbrev pub order_behind : Order → EventLine → Order
order_behind order (Says event) = order_after order event
order_behind order meaning = order

-- before the first line
abbrev pub first_order : Order
first_order = record { begun = 0; clock = 0 }

-- what a line means at its place: one that is too long, and the last that is counted, are bad whatever they say
abbrev pub meaning_at : TraceSettings → ℕ → Order → List ℕ → EventLine
meaning_at settings number order line =
    if nat_lt MAX_LINE (length line) || number == LAST_LINE then Bad else in_order order (meaning_of settings line)

-- what the line of this number says, and then the script of the lines behind it
abbrev pub line_before : ℕ → EventLine → Script → Script
line_before number Silent script = script
line_before number (Says event) script = told_before event script
line_before number Bad script = ended (Some number)

-- the script of lines, of which the first has this number and comes in this order
abbrev pub script_from : TraceSettings → ℕ → Order → List (List ℕ) → Script
script_from settings number order [] = ended None
script_from settings number order (line ∷ lines) =
    let meaning = meaning_at settings number order line in
    line_before number meaning (script_from settings (number + 1) (order_behind order meaning) lines)

-- the script of a text: lines are counted from 1
abbrev pub script_of : TraceSettings → List ℕ → Script
script_of settings text = script_from settings 1 first_order (lines_of text)
