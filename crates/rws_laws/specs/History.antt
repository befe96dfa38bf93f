-- What has set a session on one of its links.
use Rattle.std.specs.Prelude.{ℕ, ◌+◌, ◌<◌, ◌≤◌, nat_lt, Bool, true, false, ◌==◌, List, [], ◌∷◌, ◌++◌, filter, Option, Some, None, if◌then◌else◌}
use Rattle.rws_reply.specs.declared.kind.Outcome.TheVariants.{Done}
use Rattle.rws_reply.specs.declared.kind.Progress.TheVariants.{Whole as Ends}
use Rattle.rws_link.specs.declared.step.LinkStep.{LinkStep}
use Rattle.rws_link.specs.declared.step.LinkStep.TheVariants as steps
use Rattle.rws_config.specs.declared.config.Config.{Config}
use Rattle.rws_commands.specs.declared.command.Command.{Command}
use Rattle.rws_commands.specs.declared.history.HistoryEntry.{HistoryEntry}
use Rattle.rws_commands.specs.declared.history.PreparedAs.{PreparedAs}
use Rattle.rws_commands.specs.Statements.{entry_of, has_serial, is_prepared, next_handle, prepared_as}
use Rattle.rws_record.specs.Item.{Ending, Item, Purpose}
use Rattle.rws_record.specs.Item.Item.{Comes, Puts}
use Rattle.rws_record.specs.Item.Purpose.{Plays}
use Rattle.rws_record.specs.Item.Put.{Opens, Tells}
use Rattle.rws_record.specs.Item.Recording.{Accepts}
use Rattle.rws_record.specs.Item.Tell.{Passes}
use Rattle.rws_record.specs.Values.{asked_on, serials, statements}

-- entries with the one that was sent last, if the link said that its reply ended without an error
abbrev pub with_played : LinkStep → Option Purpose → List HistoryEntry → List HistoryEntry
with_played (steps.Part payload role (Ends (Done status)) next behind) (Some (Plays entry)) entries = entries ++ entry ∷ []
with_played _ _ entries = entries

-- as what a command stands in the history whose reply ended so: a prepare with the handle that the client has, and with the counts
abbrev pub led_as : (prepares : Bool) → (handle : ℕ) → Ending → Option PreparedAs
led_as true handle ending = prepared_as handle ending.named
led_as false handle ending = None

abbrev pub entry_led : Config → Command → Ending → List Item → HistoryEntry
entry_led config command ending past =
    entry_of (serials past) command (led_as (is_prepared command.kind) (next_handle (statements config past)) ending)

-- The entries that have set the session on a link since it was opened, in order: those of the history that it played, and those that
-- the client asked there, and that were added.
abbrev pub set_on : Config → ℕ → List Item → List HistoryEntry
set_on config link [] = []
set_on config link (Puts (Opens opened server login) ∷ past) = if opened == link then [] else set_on config link past
set_on config link (Puts (Tells number (Passes from command payload (Some ending) Accepts)) ∷ past) =
    if from == link then set_on config link past ++ entry_led config command ending past ∷ [] else set_on config link past
set_on config link (Comes from said ∷ past) =
    if from == link then with_played said (asked_on link past) (set_on config link past) else set_on config link past
set_on config link (_ ∷ past) = set_on config link past

-- those of a list that stand in the history: all but prepares of statements that have left
abbrev pub standing : (history : List HistoryEntry) → List HistoryEntry → List HistoryEntry
standing history entries = filter (λ entry. has_serial entry.serial history) entries

-- those below a serial
abbrev pub below_serial : (serial : ℕ) → List HistoryEntry → List HistoryEntry
below_serial serial entries = filter (λ entry. nat_lt entry.serial serial) entries

-- the serials rise, from one on and below another
abbrev pub Rises : (least bound : ℕ) → List HistoryEntry → Type 0
Rises least bound [] = Unit {0}
Rises least bound (first ∷ others) = (least ≤ first.serial) × (first.serial < bound) × Rises (first.serial + 1) bound others
