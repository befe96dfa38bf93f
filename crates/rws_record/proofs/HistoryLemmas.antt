-- The serials of a session's history rise, and none is as great as their number; no link has come further than that.
use Rattle.std.proofs.Common.{◌≡◌, ℕ, ◌+◌, ◌<◌, ◌≤◌, Bool, true, false, List, [], ◌∷◌, ◌++◌, filter, refl, subst, sym, arith, inl, inr, Option, Some, None}
use Rattle.std.specs.Prelude.{nat_lt, not, is_some, if◌then◌else◌}
use Rattle.std.proofs.lemmas.Bool.{cases_lt, lt-ltb, le-ltb}
use Rattle.rws_msgs.specs.declared.prepare_ok.PrepareOk.{PrepareOk}
use Rattle.rws_reply.specs.declared.kind.Outcome.{Outcome}
use Rattle.rws_reply.specs.declared.kind.Outcome.TheVariants.{Done, Failed}
use Rattle.rws_reply.specs.declared.kind.Progress.TheVariants.{More, Whole as Ends}
use Rattle.rws_link.specs.declared.step.LinkStep.{LinkStep}
use Rattle.rws_link.specs.declared.step.LinkStep.TheVariants as steps
use Rattle.rws_front.specs.Connection.{step_of}
use Rattle.rws_trx.specs.Transactions.{is_open}
use Rattle.rws_config.specs.declared.config.Config.{Config}
use Rattle.rws_handles.specs.Table.{Table, closed, open_at, swept}
use Rattle.rws_commands.specs.declared.command.Command.{Command}
use Rattle.rws_commands.specs.declared.history.HistoryEntry.{HistoryEntry}
use Rattle.rws_commands.specs.declared.history.PreparedAs.{PreparedAs}
use Rattle.rws_commands.specs.declared.judged.Judged.{Judged}
use Rattle.rws_commands.specs.declared.judged.Judged.TheVariants.{Leaves, IsOwn, IsRefused, IsSilent, HasTooMuch, Serves}
use Rattle.rws_commands.specs.declared.proxy_error.ProxyError.TheVariants as errors
use Rattle.rws_commands.specs.declared.request.Request.{Request}
use Rattle.rws_commands.specs.declared.request.Request.TheVariants as requests
use Rattle.rws_commands.specs.Requests.{arguments_of, request_of}
use Rattle.rws_commands.specs.Commands.{payload_of}
use Rattle.rws_handles.specs.PlainForm.{handle_in}
use Rattle.rws_handles.specs.Slots.{next_number}
use Rattle.rws_commands.specs.Statements.{Statements, answered_by, closing, entry_from, entry_of, failed_if, is_behind, is_prepared, last_serial, played, prepared_as, prepared_by, stands, swept_if, taken, taken_as, unplayed, with_entry, with_table}
use Rattle.rws_record.specs.Item.{Ending, Item, Purpose}
use Rattle.rws_record.specs.Item.Item.{Accepted, TurnsAway, Began, ClientBytes, LinkReady, LinkBytes, ClientGone, LinkLost, Ticks, Routed, Comes, Connects, Takes, Floods, Puts, Starves}
use Rattle.rws_record.specs.Item.Purpose.{Prepares, Asks, Plays, Waits, Probes}
use Rattle.rws_record.specs.Item.Recording.{Nothing, Accepts, Keeps}
use Rattle.rws_record.specs.Item.Tell.{Passes, Owns, Refuses}
use Rattle.rws_record.specs.Item.Put.{Hands, Tells, Records, Routes, Opens, LogsInto, Sends, Forgets, Drops, Closes}
use Rattle.rws_record.specs.Values.{answered_in, asked_on, command_in, cursor, fronted, heard_on, pending, serials, statements, transaction}

-- Serials that rise, from one on and below another

abbrev pub Rise : (least bound : ℕ) → List HistoryEntry → Type 0
Rise least bound [] = Unit {0}
Rise least bound (first ∷ others) = (least ≤ first.serial) × (first.serial < bound) × Rise (first.serial + 1) bound others

pub rise_from : (least lower bound : ℕ) (list : List HistoryEntry) → lower ≤ least → Rise least bound list → Rise lower bound list
rise_from least lower bound [] less rise = tt
rise_from least lower bound (first ∷ others) less rise = (omega (arith, rise.0), rise.1, rise.2)

pub rise_below : (least bound more : ℕ) (list : List HistoryEntry) → bound ≤ more → Rise least bound list → Rise least more list
rise_below least bound more [] less rise = tt
rise_below least bound more (first ∷ others) less rise =
    (rise.0, omega (arith, rise.1), rise_below (first.serial + 1) bound more others less rise.2)

pub rise_filtered : (keeps : HistoryEntry → Bool) (least bound : ℕ) (list : List HistoryEntry) → Rise least bound list
    → Rise least bound (filter keeps list)
rise_filtered keeps least bound [] rise = tt
rise_filtered keeps least bound (first ∷ others) rise = by_test (keeps first) (rise_filtered keeps (first.serial + 1) bound others rise.2)
  where
    by_test : (test : Bool) → Rise (first.serial + 1) bound (filter keeps others)
        → Rise least bound (if test then first ∷ filter keeps others else filter keeps others)
    by_test true behind = (rise.0, rise.1, behind)
    by_test false behind = rise_from (first.serial + 1) least bound (filter keeps others) (omega (arith, rise.0)) behind

pub rise_one_more : (least bound : ℕ) (list : List HistoryEntry) (entry : HistoryEntry) → least ≤ bound → entry.serial ≡ bound
    → Rise least bound list → Rise least (bound + 1) (list ++ entry ∷ [])
rise_one_more least bound [] entry less is rise = (omega (arith, is), omega (arith, is), tt)
rise_one_more least bound (first ∷ others) entry less is rise =
    (rise.0, omega (arith, rise.1), rise_one_more (first.serial + 1) bound others entry (omega (arith, rise.1)) is rise.2)

-- The history of a record

-- the serials of the history rise, below this
abbrev pub Rises : ℕ → Statements → Type 0
Rises bound s = Rise 0 bound s.history

more_rises : (bound : ℕ) (s : Statements) → Rises bound s → Rises (bound + 1) s
more_rises bound s rises = rise_below 0 bound (bound + 1) s.history (omega arith) rises

table_rises : (bound : ℕ) (table : Table) (s : Statements) → Rises bound s → Rises bound (with_table table s)
table_rises bound table s rises = rise_filtered (λ entry. stands table.statements entry.statement) 0 bound s.history rises

if_rises : (bound : ℕ) (test : Bool) (then_so s : Statements) → Rises bound then_so → Rises bound s → Rises bound (if test then then_so else s)
if_rises bound true then_so s now rises = now
if_rises bound false then_so s now rises = rises

closing_rises : (bound : ℕ) (later : Bool) (handle : Option ℕ) (s : Statements) → Rises bound s → Rises bound (closing later handle s)
closing_rises bound later (Some handle) s rises =
    if_rises bound (is_some (open_at s.table handle)) (with_table (closed later s.table handle) s) s
    (table_rises bound (closed later s.table handle) s rises) rises
closing_rises bound later None s rises = rises

taken_rises : (bound : ℕ) (request : Request) (in_transaction : Bool) (payload : List ℕ) (s : Statements) → Rises bound s
    → Rises bound (taken request in_transaction payload s)
taken_rises bound requests.CloseStatement in_transaction payload s rises = closing_rises bound in_transaction (handle_in payload) s rises
taken_rises bound requests.Execute in_transaction payload s rises = rises
taken_rises bound requests.SendLongData in_transaction payload s rises = rises
taken_rises bound requests.ResetStatement in_transaction payload s rises = rises
taken_rises bound requests.Prepare in_transaction payload s rises = rises
taken_rises bound requests.Quit in_transaction payload s rises = rises
taken_rises bound requests.Ping in_transaction payload s rises = rises
taken_rises bound requests.Query in_transaction payload s rises = rises
taken_rises bound requests.FieldList in_transaction payload s rises = rises
taken_rises bound requests.InitDb in_transaction payload s rises = rises
taken_rises bound requests.Unsupported in_transaction payload s rises = rises
taken_rises bound requests.Unknown in_transaction payload s rises = rises

failed_rises : (bound : ℕ) (prepares : Bool) (s : Statements) → Rises bound s → Rises bound (failed_if prepares s)
failed_rises bound true s rises = rises
failed_rises bound false s rises = rises

taken_as_rises : (bound : ℕ) (judged : Judged) (in_transaction : Bool) (payload : List ℕ) (s : Statements) → Rises bound s
    → Rises bound (taken_as judged in_transaction payload s)
taken_as_rises bound (IsRefused error) in_transaction payload s rises = failed_rises bound _ s rises
taken_as_rises bound (HasTooMuch bytes) in_transaction payload s rises = rises
taken_as_rises bound Leaves in_transaction payload s rises = taken_rises bound (request_of payload) in_transaction payload s rises
taken_as_rises bound IsOwn in_transaction payload s rises = taken_rises bound (request_of payload) in_transaction payload s rises
taken_as_rises bound IsSilent in_transaction payload s rises = taken_rises bound (request_of payload) in_transaction payload s rises
taken_as_rises bound (Serves command) in_transaction payload s rises = taken_rises bound (request_of payload) in_transaction payload s rises

swept_rises : (bound : ℕ) (ends : Bool) (s : Statements) → Rises bound s → Rises bound (swept_if ends s)
swept_rises bound true s rises = table_rises bound (swept s.table) s rises
swept_rises bound false s rises = rises

played_rises : (bound link serial : ℕ) (how : Option PreparedAs) (named : Option PrepareOk) (s : Statements) → Rises bound s
    → Rises bound (played link serial how named s)
played_rises bound link serial (Some how) (Some ok) s rises = rises
played_rises bound link serial (Some how) None s rises = rises
played_rises bound link serial None named s rises = rises

heard_rises : (bound link : ℕ) (said : LinkStep) (asked : Option Purpose) (ends : Outcome → Bool) (named : Option PrepareOk) (s : Statements)
    → Rises bound s → Rises bound (heard_on link said asked ends named s)
heard_rises bound link (steps.Part payload role (Ends outcome) next behind) (Some (Asks command id)) ends named s rises =
    swept_rises bound (ends outcome) s rises
heard_rises bound link (steps.Part payload role (Ends (Done status)) next behind) (Some (Plays entry)) ends named s rises =
    played_rises bound link entry.serial entry.statement _ s rises
heard_rises bound link (steps.Part payload role (Ends (Failed code)) next behind) (Some (Plays entry)) ends named s rises = rises
heard_rises bound link (steps.Part payload role (Ends outcome) next behind) (Some Prepares) ends named s rises = rises
heard_rises bound link (steps.Part payload role (Ends outcome) next behind) (Some (Waits gtid seconds)) ends named s rises = rises
heard_rises bound link (steps.Part payload role (Ends outcome) next behind) (Some (Probes gtid)) ends named s rises = rises
heard_rises bound link (steps.Part payload role (Ends outcome) next behind) None ends named s rises = rises
heard_rises bound link (steps.Part payload role More next behind) asked ends named s rises = rises
heard_rises bound link (steps.Lost cause) asked ends named s rises = rises
heard_rises bound link (steps.Send packets) asked ends named s rises = rises
heard_rises bound link steps.LoggedIn asked ends named s rises = rises
heard_rises bound link steps.Idle asked ends named s rises = rises

entry_rises : (bound : ℕ) (command : Command) (how : Option PreparedAs) (s : Statements) → Rises bound s
    → Rises (bound + 1) (with_entry (Some bound) command how s)
entry_rises bound command how s rises =
    rise_one_more 0 bound s.history (entry_of bound command how) (omega arith) refl rises

answered_rises : (bound link : ℕ) (command : Option Command) (its : Ending) (s : Statements) → Rises bound s
    → Rises (bound + 1) (answered_in link command its (Some bound) s)
answered_rises bound link None its s rises = more_rises bound s rises
answered_rises bound link (Some command) its s rises = by_kind (is_prepared command.kind)
  where
    by_kind : (prepares : Bool) → Rises (bound + 1) (answered_by prepares link command its.outcome its.named (Some bound) s)
    by_kind true =
        entry_rises bound command (prepared_as (next_number s.table.statements) its.named)
        (record s { table = prepared_by link (arguments_of (payload_of command.body)) its.outcome its.named s.table }) rises
    by_kind false = entry_rises bound command None s rises

unrecorded_rises : (bound link : ℕ) (command : Option Command) (its : Ending) (s : Statements) → Rises bound s
    → Rises bound (answered_in link command its None s)
unrecorded_rises bound link None its s rises = rises
unrecorded_rises bound link (Some command) its s rises = by_kind (is_prepared command.kind)
  where
    by_kind : (prepares : Bool) → Rises bound (answered_by prepares link command its.outcome its.named None s)
    by_kind true = rises
    by_kind false = rises

-- in each record
pub history_rises : (config : Config) (past : List Item) → Rises (serials past) (statements config past)
history_rises config [] = tt
history_rises config (Takes judged number ∷ past) = taken_as_rises (serials past) judged (is_open (transaction config past).state)
    (command_in (step_of config.accounts (fronted config past)).0) (statements config past) (history_rises config past)
history_rises config (Comes link said ∷ past) =
    heard_rises (serials past) link said (asked_on link past) _ _ (statements config past) (history_rises config past)
history_rises config (Puts (Tells number (Passes link command payload (Some its) Accepts)) ∷ past) =
    answered_rises (serials past) link (pending past) its (statements config past) (history_rises config past)
history_rises config (Puts (Tells number (Passes link command payload (Some its) Keeps)) ∷ past) =
    unrecorded_rises (serials past) link (pending past) its (statements config past) (history_rises config past)
history_rises config (Puts (Tells number (Passes link command payload (Some its) Nothing)) ∷ past) =
    unrecorded_rises (serials past) link (pending past) its (statements config past) (history_rises config past)
history_rises config (Puts (Tells number (Passes link command payload None recording)) ∷ past) = history_rises config past
history_rises config (Puts (Tells number (Owns status)) ∷ past) = history_rises config past
history_rises config (Puts (Tells number (Refuses errors.NoPrimary)) ∷ past) = failed_rises (serials past) _ (statements config past) (history_rises config past)
history_rises config (Puts (Tells number (Refuses (errors.PrimaryBehind wanted found))) ∷ past) = failed_rises (serials past) _ (statements config past) (history_rises config past)
history_rises config (Puts (Tells number (Refuses errors.UnknownCommand)) ∷ past) = history_rises config past
history_rises config (Puts (Tells number (Refuses errors.NotSupported)) ∷ past) = history_rises config past
history_rises config (Puts (Tells number (Refuses errors.UnknownStatement)) ∷ past) = history_rises config past
history_rises config (Puts (Tells number (Refuses errors.BadExecute)) ∷ past) = history_rises config past
history_rises config (Puts (Tells number (Refuses errors.TooManyStatements)) ∷ past) = history_rises config past
history_rises config (Puts (Tells number (Refuses errors.NotInReadOnly)) ∷ past) = history_rises config past
history_rises config (Puts (Tells number (Refuses errors.TooManyConnections)) ∷ past) = history_rises config past
history_rises config (Puts (Tells number (Refuses errors.CommandTooLarge)) ∷ past) = history_rises config past
history_rises config (Puts (Tells number (Refuses errors.OutOfMemory)) ∷ past) = history_rises config past
history_rises config (Puts (Forgets link id) ∷ past) = history_rises config past
history_rises config (LinkLost link ∷ past) = history_rises config past
history_rises config (Puts (Drops link cause) ∷ past) = history_rises config past
history_rises config (Accepted session scramble reading ∷ past) = history_rises config past
history_rises config (TurnsAway told ∷ past) = history_rises config past
history_rises config (Began link server reading ∷ past) = history_rises config past
history_rises config (ClientBytes bytes ∷ past) = history_rises config past
history_rises config (LinkReady link ∷ past) = history_rises config past
history_rises config (LinkBytes link bytes ∷ past) = history_rises config past
history_rises config (ClientGone ∷ past) = history_rises config past
history_rises config (Ticks reading ∷ past) = history_rises config past
history_rises config (Routed words loads next found ∷ past) = history_rises config past
history_rises config (Connects said ∷ past) = history_rises config past
history_rises config (Floods bytes ∷ past) = history_rises config past
history_rises config (Starves made number ∷ past) = history_rises config past
history_rises config (Puts (Hands packets) ∷ past) = history_rises config past
history_rises config (Puts Routes ∷ past) = history_rises config past
history_rises config (Puts (Records server gtid) ∷ past) = history_rises config past
history_rises config (Puts (Opens link server login) ∷ past) = history_rises config past
history_rises config (Puts (LogsInto link packets) ∷ past) = history_rises config past
history_rises config (Puts (Sends link purpose) ∷ past) = history_rises config past
history_rises config (Puts (Closes reason) ∷ past) = history_rises config past

-- What a link plays next

last_at_least : (least bound cursor : ℕ) (first : HistoryEntry) (others : List HistoryEntry) → cursor ≤ least → Rise least bound (first ∷ others)
    → is_behind (last_serial (first ∷ others)) cursor ≡ true
last_at_least least bound cursor first [] less rise = rw (le-ltb first.serial cursor (omega (arith, rise.0))) refl
last_at_least least bound cursor first (second ∷ others) less rise =
    last_at_least (first.serial + 1) bound cursor second others (omega (arith, rise.0)) rise.2

-- there is something to play where the last entry wasn't
pub behind_is : (least bound cursor : ℕ) (list : List HistoryEntry) → Rise least bound list
    → is_some (entry_from cursor list) ≡ is_behind (last_serial list) cursor
behind_is least bound cursor [] rise = refl
behind_is least bound cursor (first ∷ []) rise = by_test (nat_lt first.serial cursor)
  where
    by_test : (test : Bool) → is_some (if test then None else Some first) ≡ not test
    by_test true = refl
    by_test false = refl
behind_is least bound cursor (first ∷ second ∷ others) rise =
    elim (cases_lt first.serial cursor) [
      | inl below ↦ rw (lt-ltb first.serial cursor below) (behind_is (first.serial + 1) bound cursor (second ∷ others) rise.2)
      | inr above ↦
          let last = last_at_least (first.serial + 1) bound cursor second others (omega arith) rise.2 in
          rw (le-ltb first.serial cursor above) (sym last)
    ]

pub unplayed_is : (config : Config) (past : List Item) (link : ℕ)
    → is_some (unplayed (cursor link past) (statements config past)) ≡ is_behind (last_serial (statements config past).history) (cursor link past)
unplayed_is config past link = behind_is 0 (serials past) (cursor link past) (statements config past).history (history_rises config past)

-- an entry that is found from a serial on stands there, and below the bound
pub found_between : (least bound serial : ℕ) (list : List HistoryEntry) (entry : HistoryEntry) → Rise least bound list
    → entry_from serial list ≡ Some entry → (serial ≤ entry.serial) × (entry.serial < bound)
found_between least bound serial [] entry rise e = absurd cc
found_between least bound serial (first ∷ others) entry rise e =
    elim (cases_lt first.serial serial) [
      | inl below ↦
          let there : entry_from serial others ≡ Some entry = rw (lt-ltb first.serial serial below) at e in
          found_between (first.serial + 1) bound serial others entry rise.2 there
      | inr above ↦
          let here : Some first ≡ Some entry = rw (le-ltb first.serial serial above) at e in
          let same : first ≡ entry = cc in
          subst (λ (x : HistoryEntry). (serial ≤ x.serial) × (x.serial < bound)) same (above, rise.1)
    ]

pub unplayed_between : (config : Config) (past : List Item) (link : ℕ) (entry : HistoryEntry)
    → unplayed (cursor link past) (statements config past) ≡ Some entry → (cursor link past ≤ entry.serial) × (entry.serial < serials past)
unplayed_between config past link entry e =
    found_between 0 (serials past) (cursor link past) (statements config past).history entry (history_rises config past) e
